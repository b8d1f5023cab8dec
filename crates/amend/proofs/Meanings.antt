-- What a change of the attachments can mean.
use Rattle.std.proofs.Common.{◌≡◌, ℕ, List, Some, sym, refl, ap}
use Rattle.attribute.specs.declared.Rule.TheVariants as rule
use Rattle.contents.specs.Contents.{Contents, means}
use Rattle.editing.specs.Amendments as spec
use Rattle.amend.specs.declared.changes.Touch.{Touch}
use Rattle.amend.specs.declared.changes.Change.TheVariants.{Kept, Added, Changed}
use Rattle.amend.specs.Changes.{TouchMeans, AttachingMeans}

module _ (ys : List ℕ) where
  pub before_means : (β : spec.Attaching) → AttachingMeans ys Kept β → β ≡ spec.as_before
  before_means spec.as_before m = refl
  before_means (spec.attachment_added c) m = absurd m
  before_means (spec.attachment_removed k) m = absurd m
  before_means (spec.attachment_changed k τ) m = absurd m

  pub added_means : (β : spec.Attaching) → AttachingMeans ys Added β → (c : Contents) × (means rule.Rendering ys ≡ Some c) × (β ≡ spec.attachment_added c)
  added_means spec.as_before m = absurd m
  added_means (spec.attachment_added c) m = (c, m, refl)
  added_means (spec.attachment_removed k) m = absurd m
  added_means (spec.attachment_changed k τ) m = absurd m

  pub changed_means : (n : ℕ) (t : Touch) (β : spec.Attaching) → AttachingMeans ys (Changed n t) β
      → (τ : spec.Touch) × TouchMeans ys t τ × (β ≡ spec.attachment_changed n τ)
  changed_means n t spec.as_before m = absurd m
  changed_means n t (spec.attachment_added c) m = absurd m
  changed_means n t (spec.attachment_removed k) m = absurd m
  changed_means n t (spec.attachment_changed k τ) m = (τ, m.1, ap (λ j. spec.attachment_changed j τ) (sym m.0))
