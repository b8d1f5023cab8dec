-- The frame of a new code page, and of the one that stays.
use Rattle.std.proofs.Common.{◌≡◌, ℕ, true, false, List, is_some, Some, None, Option, sym, refl, ap}
use Rattle.attribute.specs.Table.{attribute_of, code_page_id}
use Rattle.attribute.specs.declared.Rule.TheVariants as rule
use Rattle.contents.specs.Contents.{admits, normal_data, normal_of}
use Rattle.index.specs.declared.attributes.AttributeRow.{AttributeRow}
use Rattle.stream.specs.Writing.{write_entry}
use Rattle.form.specs.Framing.{framed}
use Rattle.form.specs.Holdings.{page_bytes}
use Rattle.amend.specs.Changes.{PageMeans}
use Rattle.amend.specs.Parts.{page_after}

module _ (ys : List ℕ) where
  pub page_admitted : (o : Option ℕ) → PageMeans ys true o → admits rule.CodePage ys ≡ true
  unfolding admits
  page_admitted None m = absurd m
  page_admitted (Some n) m = ap is_some m

  module _ (xs : List ℕ) (rows : List AttributeRow) where
    pub page_new : (o : Option ℕ) → PageMeans ys true o → page_after xs rows o ≡ framed 1 code_page_id (normal_data rule.CodePage ys)
    unfolding page_after write_entry framed attribute_of
    page_new None m = absurd m
    page_new (Some n) m = ap (λ o. framed 1 code_page_id (normal_of o)) (sym m)

    pub page_kept : (o : Option ℕ) → PageMeans ys false o → page_after xs rows o ≡ page_bytes xs rows
    unfolding page_after page_bytes
    page_kept None m = refl
    page_kept (Some n) m = absurd m
