-- A frame that was read is of an attribute of the table, and may stand at its stage.
use Rattle.std.proofs.Common.{◌≡◌, ℕ, eqb, ltb, List, [], ◌∷◌, Some, None, Ok, Option, ap, ◌∙◌, arith}
use Rattle.std.proofs.lemmas.Bool.Decides.{nat_tests}
use Rattle.source.specs.Outcome.{Outcome, ◌>>=◌, ◌>>◌, need, given}
use Rattle.source.specs.declared.refusals.Reason.TheVariants.{UnknownId, Level, LengthSign}
use Rattle.frame.proofs.Standing.{frame_parts}
use Rattle.attribute.specs.Table.{attributes, find, attribute_of}
use Rattle.attribute.specs.declared.Attribute.{Attribute}
use Rattle.frame.specs.Stages.{role, next_stage}
use Rattle.frame.specs.Frames.{head_judged, frame_at}
use Rattle.frame.specs.declared.Frame.{Frame}
use Rattle.frame.specs.declared.Head.{Head}
use Rattle.frame.specs.declared.Judged.{Judged}
use Rattle.frame.specs.declared.stages.Stage.{Stage}

pub find_id : (table : List Attribute) (i : ℕ) (a : Attribute) → find table i ≡ Some a → a.id ≡ i
find_id [] i a e = grind (arith, nat_tests)
find_id (b ∷ rest) i a e = grind (arith, nat_tests, find_id rest i a)

-- What a head decided, from what it gave.
judged_by : (h : Head) (p : ℕ) (j : Judged) (turn : Attribute → Outcome Stage) (o : Option Attribute)
    → Ok j ≡ (given o UnknownId p >>= (λ a. need (eqb h.level a.level) Level p
    >> (turn a >>= (λ t. need (ltb h.size 0x80000000) LengthSign p >> Ok (record { attribute = a; stage = t })))))
    → (o ≡ Some j.attribute) × (turn j.attribute ≡ Ok j.stage)
unfolding ◌>>=◌ ◌>>◌
judged_by h p j turn None e = grind arith
judged_by h p j turn (Some a) e = grind (arith, nat_tests)

judged_got : (h : Head) (p : ℕ) (s : Stage) (j : Judged) → Ok j ≡ head_judged h p s
    → (attribute_of h.id ≡ Some j.attribute) × (next_stage s (role j.attribute) p ≡ Ok j.stage)
unfolding head_judged ◌>>=◌ ◌>>◌
judged_got h p s j e = judged_by h p j (λ a. next_stage s (role a) p) (attribute_of h.id) e

-- A frame is of an attribute of the table, and may stand where it stands.
pub record Placed (p : ℕ) (s : Stage) (f : Frame) : Type 0 where
  pub known : attribute_of f.attribute.id ≡ Some f.attribute
  pub turn : next_stage s (role f.attribute) p ≡ Ok f.stage

pub frame_placed : (xs : List ℕ) (p : ℕ) (s : Stage) (f : Frame) → Ok f ≡ frame_at xs p s → Placed p s f
unfolding attribute_of
frame_placed xs p s f e =
    let (h, j, k, i, _, q) = frame_parts xs p s f e in
    let (n, t) = judged_got h p s j i in
    let id : j.attribute.id ≡ h.id = find_id attributes h.id j.attribute n in
    rw q (record { known = ap attribute_of id ∙ n; turn = t })
