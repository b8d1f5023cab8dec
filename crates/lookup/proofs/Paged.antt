-- The primary number that a row of the code page has.
use Rattle.std.proofs.Common.{◌≡◌, ℕ, List, Some, None, Ok, Option, Result, unwrap_or, sym, ap, ◌∙◌}
use Rattle.std.specs.Result.{result_unwrap_or}
use Rattle.std.specs.List.{AllByRecursion}
use Rattle.source.specs.declared.refusals.Refusal.{Refusal}
use Rattle.scan.specs.Scans.{asked}
use Rattle.scan.proofs.Parts.{asked_within}
use Rattle.attribute.specs.Table.{code_page_id}
use Rattle.attribute.specs.declared.Rule.TheVariants as rule
use Rattle.contents.specs.Contents.{Contents, code_page, means, code_page_in, primary_number}
use Rattle.contents.proofs.Parts.{also_some}
use Rattle.index.specs.declared.attributes.AttributeRow.{AttributeRow}
use Rattle.stream.specs.Messages.{or_default, as_primary}
use Rattle.form.specs.Targets.{Standing, row_under}
use Rattle.form.specs.Holdings.{told_by}
use Rattle.form.proofs.Found.{row_lost}
use Rattle.form.proofs.Pages.{page_held}
use Rattle.lookup.specs.Finding.{page_in}

page_means : (ys : List ℕ) (c : Contents) → means rule.CodePage ys ≡ Some c → code_page_in ys ≡ Some (primary_number c)
unfolding means
page_means ys c e = let (n, f, q) = also_some (code_page_in ys) code_page c e in f ∙ ap (λ x. Some (primary_number x)) q

module _ (xs : List ℕ) (rows : List AttributeRow) where
  module _ (sound : AllByRecursion (Standing xs) rows) (r : AttributeRow) (e : Some r ≡ row_under code_page_id rows) where
    asked_page : asked code_page_in xs r.place r.size ≡ Ok (Some (page_in xs rows))
    asked_page =
        let (c, f, t, w) = page_held xs rows sound r e in
        asked_within code_page_in xs r.place r.size w ∙ ap Ok (page_means _ c f) ∙ ap (λ n. Ok (Some n)) (sym (ap (λ o. or_default o 0) t))

    pub page_found : (x : Result (Option ℕ) Refusal) → x ≡ asked code_page_in xs r.place r.size → unwrap_or (result_unwrap_or x None) 0 ≡ page_in xs rows
    page_found x q = ap (λ x. unwrap_or (result_unwrap_or x None) 0) (q ∙ asked_page)

  pub page_lost : None ≡ row_under code_page_id rows → page_in xs rows ≡ 0
  page_lost e = ap (λ o. or_default (told_by as_primary o) 0) (row_lost xs code_page_id rows e)
