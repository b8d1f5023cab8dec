-- What putting an attribute amends.
use Rattle.std.proofs.Common.{◌≡◌, ℕ, true, false, List, Some, None, Option, refl, ap, ◌∙◌, arith}
use Rattle.std.proofs.lemmas.Bool.{both_ways}
use Rattle.scan.specs.Texts.{also}
use Rattle.attribute.specs.Table.{attribute_of}
use Rattle.attribute.specs.declared.Attribute.{Attribute}
use Rattle.attribute.specs.declared.Rule.{Rule}
use Rattle.attribute.specs.declared.Rule.TheVariants as rule
use Rattle.contents.specs.Contents.{Contents, means, code_page, code_page_in, primary_number}
use Rattle.stream.specs.Reading.{nature, plain}
use Rattle.stream.specs.Messages.{Message, Holding}
use Rattle.message.specs.declared.Target.{Target}
use Rattle.message.specs.Sameness.{holding}
use Rattle.message.proofs.FrameReads.{id_of}
use Rattle.form.specs.Holdings.{Plain}
use Rattle.editing.specs.Targets.{use_of, may_put, may_drop}
use Rattle.editing.specs.Edits.{put_meaning}
use Rattle.editing.specs.Amendments as spec
use Rattle.editing.specs.Amendments.{amended, to_target}
use Rattle.amend.specs.Changes.{TouchMeans}
use Rattle.amend.specs.declared.changes.Slot.TheVariants.{Put}
use Rattle.amend.specs.declared.changes.Listing.TheVariants.{Same}
use Rattle.draft.specs.Checks.{NamedFor, put_amended}
use Rattle.draft.proofs.Changing.{at_target}

-- Contents of a code page are its primary number.
pub page_contents : (ys : List ℕ) (c : Contents) → means rule.CodePage ys ≡ Some c → c ≡ code_page (primary_number c)
unfolding means
page_contents ys c e = by (code_page_in ys) e
  where
    by : (o : Option ℕ) → also o code_page ≡ Some c → c ≡ code_page (primary_number c)
    by (Some n) e = let q : code_page n ≡ c = cc in rw (← q) refl
    by None e = absurd (let z : ◌≡◌ {A = ℕ} 0 1 = cc in omega arith)

abbrev put_touch : Attribute → Contents → spec.Touch
put_touch a c = record { slot = spec.put a.id c; listing = spec.same }

-- Whatever else may be put is held by its target.
module _ (t : Target) (a : Attribute) (c : Contents) where
  pub held_by_target : (r : Rule) → (r ≡ rule.CodePage → ⊥) → put_amended t a c r ≡ to_target t (put_touch a c)
  held_by_target rule.Text n = refl
  held_by_target rule.Class n = refl
  held_by_target rule.Date n = refl
  held_by_target rule.Digits n = refl
  held_by_target rule.Status n = refl
  held_by_target rule.Priority n = refl
  held_by_target rule.YesNo n = refl
  held_by_target rule.Raw n = refl
  held_by_target rule.Rendering n = refl
  held_by_target rule.Version n = refl
  held_by_target rule.CodePage n = absurd (n refl)
  held_by_target rule.Recipients n = refl
  held_by_target rule.Properties n = refl

plain_put : (r : Rule) → may_put (use_of r) ≡ true → (r ≡ rule.CodePage → ⊥) → nature r ≡ plain
plain_put rule.Text e n = refl
plain_put rule.Class e n = refl
plain_put rule.Date e n = refl
plain_put rule.Digits e n = refl
plain_put rule.Status e n = refl
plain_put rule.Priority e n = refl
plain_put rule.YesNo e n = refl
plain_put rule.Raw e n = refl
plain_put rule.Rendering e n = refl
plain_put rule.Version e n = absurd (both_ways false refl e)
plain_put rule.CodePage e n = absurd (n refl)
plain_put rule.Recipients e n = absurd (both_ways false refl e)
plain_put rule.Properties e n = absurd (both_ways false refl e)

pub plain_named : (t : Target) (i : ℕ) (a : Attribute) → NamedFor t i may_put a → (a.rule ≡ rule.CodePage → ⊥) → Plain a
plain_named t i a w n = record { known = ap attribute_of (id_of i a w.known) ∙ w.known; kind = plain_put a.rule w.allowed n }

plain_drop : (r : Rule) → may_drop (use_of r) ≡ true → nature r ≡ plain
plain_drop rule.Text e = refl
plain_drop rule.Class e = refl
plain_drop rule.Date e = refl
plain_drop rule.Digits e = refl
plain_drop rule.Status e = refl
plain_drop rule.Priority e = refl
plain_drop rule.YesNo e = refl
plain_drop rule.Raw e = refl
plain_drop rule.Rendering e = refl
plain_drop rule.Version e = absurd (both_ways false refl e)
plain_drop rule.CodePage e = absurd (both_ways false refl e)
plain_drop rule.Recipients e = absurd (both_ways false refl e)
plain_drop rule.Properties e = absurd (both_ways false refl e)

pub plain_dropped : (t : Target) (i : ℕ) (a : Attribute) → NamedFor t i may_drop a → Plain a
plain_dropped t i a w = record { known = ap attribute_of (id_of i a w.known) ∙ w.known; kind = plain_drop a.rule w.allowed }

pub put_means : (ys : List ℕ) (t : Target) (i : ℕ) (a : Attribute) (c : Contents) → NamedFor t i may_put a → (a.rule ≡ rule.CodePage → ⊥) → means a.rule ys ≡ Some c
    → TouchMeans ys (record { slot = Put a; listing = Same }) (put_touch a c)
put_means ys t i a c w n e = record { slot = (refl, plain_named t i a w n, e); listing = tt }

-- It is what the edit makes of the message.
pub put_is : (m : Message) (t : Target) (a : Attribute) (c : Contents) (h : Holding) → holding m t ≡ Some h → (r : Rule) → amended (put_amended t a c r) m ≡ put_meaning m t a c h r
put_is m t a c h e rule.Text = at_target m t h (put_touch a c) e
put_is m t a c h e rule.Class = at_target m t h (put_touch a c) e
put_is m t a c h e rule.Date = at_target m t h (put_touch a c) e
put_is m t a c h e rule.Digits = at_target m t h (put_touch a c) e
put_is m t a c h e rule.Status = at_target m t h (put_touch a c) e
put_is m t a c h e rule.Priority = at_target m t h (put_touch a c) e
put_is m t a c h e rule.YesNo = at_target m t h (put_touch a c) e
put_is m t a c h e rule.Raw = at_target m t h (put_touch a c) e
put_is m t a c h e rule.Rendering = at_target m t h (put_touch a c) e
put_is m t a c h e rule.Version = at_target m t h (put_touch a c) e
put_is m t a c h e rule.CodePage = refl
put_is m t a c h e rule.Recipients = at_target m t h (put_touch a c) e
put_is m t a c h e rule.Properties = at_target m t h (put_touch a c) e
