-- Groups decide messages, as forms do.
use Rattle.std.proofs.Common.{◌≡◌, ℕ, true, false, List, [], ◌∷◌, get_or, sym, refl, ap, ◌∙◌, inl, inr, one-add}
use Rattle.std.specs.Str.{bytes_eq}
use Rattle.std.proofs.lemmas.Bool.{cases_Bool, both_ways}
use Rattle.std.proofs.lemmas.Slice.Eq.{bytes_eq-Decides}
use Rattle.index.specs.Rows.{has, before}
use Rattle.stream.specs.Writing.{written}
use Rattle.message.proofs.Forms.{forms_decide}
use Rattle.correspondence.specs.Groups.{GroupsDecide}

-- A form that was added stands where its group says.
stands : (forms : List (List ℕ)) (form : List ℕ) → has bytes_eq forms form ≡ true → get_or forms (before bytes_eq forms form) [] ≡ form
stands [] form h = absurd (both_ways false refl h)
stands (f ∷ fs) form h =
    elim (cases_Bool (bytes_eq f form)) [
      | inl t ↦ rw t ((bytes_eq-Decides f form).0 t)
      | inr d ↦ let k : has bytes_eq fs form ≡ true = rw d at h in rw (d, one-add) (stands fs form k)
    ]

pub groups_decide : GroupsDecide
groups_decide m n a b forms h k =
    let d = forms_decide m n a b in
    (λ e. d.0 (sym (stands forms (written m) h) ∙ ap (λ i. get_or forms i []) e ∙ stands forms (written n) k), λ s. ap (before bytes_eq forms) (d.1 s))
