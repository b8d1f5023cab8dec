-- What loads decide.
use Rattle.std.specs.Prelude.{◌≡◌, ℕ, Bool, ◌↔◌, List, Ok, Err, Decides, Result}
use Rattle.source.specs.Outcome.{Outcome, ◌>>=◌}
use Rattle.source.specs.declared.refusals.Refusal.{Refusal}
use Rattle.std.specs.Str.{bytes_eq}
use Rattle.stream.specs.Messages.{Message}
use Rattle.stream.specs.Writing.{written}
use Rattle.message.specs.Sameness.{Same, Carries, SourceBytes}
use Rattle.draft.specs.Drafts.{Memory, loaded}

-- Two loads that are accepted write the forms of the messages that their sources carry, and equal bytes exactly for the same message.
abbrev pub LoadsDecide : Type 0
LoadsDecide =
    (v w : Memory) (a b : ℕ) (xs ys f g : List ℕ) → SourceBytes xs → SourceBytes ys → loaded v a xs ≡ Ok f → loaded w b ys ≡ Ok g
    → (m : Message) × (n : Message) × Carries xs m × Carries ys n × (f ≡ written m) × (g ≡ written n) × ((f ≡ g) ↔ Same m n)

-- Whether two loads write equal bytes, or the refusal of the first that is refused.
unfoldable pub compared : Outcome (List ℕ) → Outcome (List ℕ) → Outcome Bool
unfolding ◌>>=◌
compared o q = do
  f ← o
  g ← q
  Ok (bytes_eq f g)

-- The answer says whether two streams carry the same message.
abbrev pub Tells : List ℕ → List ℕ → Result Bool Refusal → Type 0
Tells xs ys (Ok b) = (m n : Message) → Carries xs m → Carries ys n → Decides b (Same m n)
Tells xs ys (Err e) = Unit {0}

-- What the second load writes, which is not begun where the first is refused.
abbrev pub next_load : Outcome (List ℕ) → Outcome (List ℕ) → Outcome (List ℕ)
next_load (Ok f) q = q
next_load (Err e) q = Err e
