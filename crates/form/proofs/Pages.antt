-- The code page that a row has, and its frame.
use Rattle.std.proofs.Common.{◌≡◌, ℕ, ◌+◌, ◌≤◌, true, List, length, is_some, Some, None, Ok, Option, sym, refl, ap, ◌∙◌, arith}
use Rattle.std.specs.List.{AllByRecursion}
use Rattle.source.specs.Bytes.{part}
use Rattle.source.specs.Outcome.{given, over}
use Rattle.source.specs.declared.refusals.Reason.TheVariants.{NotAdmitted}
use Rattle.source.proofs.Outcomes.{err_not_ok}
use Rattle.scan.specs.Scans.{asked}
use Rattle.scan.proofs.Parts.{asked_within}
use Rattle.attribute.specs.Table.{attribute, attribute_of, code_page_id}
use Rattle.attribute.specs.declared.Rule.TheVariants as rule
use Rattle.contents.specs.Contents.{Contents, code_page, means, admits, normal, normal_data, code_page_in, primary_number}
use Rattle.contents.proofs.Parts.{also_some}
use Rattle.index.specs.declared.attributes.AttributeRow.{AttributeRow}
use Rattle.stream.specs.Reading.{Meant, primary, meant_as}
use Rattle.stream.specs.Messages.{or_default, as_primary}
use Rattle.stream.specs.Writing.{write_entry}
use Rattle.form.specs.Framing.{framed}
use Rattle.form.specs.Targets.{row_meant, or_version, row_entry, Standing, row_under}
use Rattle.form.specs.Holdings.{told_by, told_in, page_bytes}
use Rattle.form.proofs.Found.{row_found, row_lost, row_means}
use Rattle.form.proofs.Tells.{page_known}

given_page : (o : Option Contents) (base : ℕ) (m : Meant) → over (λ c. primary (primary_number c)) (given o NotAdmitted base) ≡ Ok m
    → (c : Contents) × (o ≡ Some c) × (m ≡ primary (primary_number c))
given_page (Some c) base m e = (c, refl, cc)
given_page None base m e = absurd (err_not_ok e)

page_contents : (ys : List ℕ) (c : Contents) → means rule.CodePage ys ≡ Some c → normal c ≡ normal (code_page (primary_number c))
unfolding means
page_contents ys c e = let (n, _, q) = also_some (code_page_in ys) code_page c e in rw (← q)

module _ (xs : List ℕ) (rs : List AttributeRow) (sound : AllByRecursion (Standing xs) rs) (r : AttributeRow) (e : Some r ≡ row_under code_page_id rs) where
  pub page_held : (c : Contents) × (means rule.CodePage (part xs r.place r.size) ≡ Some c) × (told_in as_primary code_page_id xs rs ≡ Some (primary_number c)) × (r.place + r.size ≤ length xs)
  unfolding row_entry meant_as
  page_held =
      let (i, s, u) = row_found xs code_page_id rs r sound e in
      let (c, f, m) = given_page (means rule.CodePage (part xs r.place r.size)) r.place (or_version (row_meant xs r))
      (sym (row_means xs (attribute code_page_id 1 rule.CodePage) r page_known.known i) ∙ s.reads) in
      (c, f, ap (told_by as_primary) u ∙ ap as_primary m, s.within)

  pub page_admitted : asked (admits rule.CodePage) xs r.place r.size ≡ Ok true
  unfolding admits
  page_admitted = let (c, f, _, w) = page_held in asked_within (admits rule.CodePage) xs r.place r.size w ∙ ap (λ o. Ok (is_some o)) f

  pub page_framed : page_bytes xs rs ≡ framed 1 code_page_id (normal_data rule.CodePage (part xs r.place r.size))
  unfolding page_bytes write_entry framed attribute_of
  page_framed =
      let (c, f, t, _) = page_held in
      let d : framed 1 code_page_id (normal c) ≡ framed 1 code_page_id (normal_data rule.CodePage (part xs r.place r.size)) = rw f in
      ap (λ o. framed 1 code_page_id (normal (code_page (or_default o 0)))) t ∙ ap (framed 1 code_page_id) (sym (page_contents _ c f)) ∙ d

pub page_absent : (xs : List ℕ) (rs : List AttributeRow) (n : ℕ) → None ≡ row_under code_page_id rs → told_in as_primary code_page_id xs rs ≡ Some n → ⊥
page_absent xs rs n e t =
    let q : None ≡ Some n = sym (ap (told_by as_primary) (row_lost xs code_page_id rs e)) ∙ t in
    let z : ◌≡◌ {A = ℕ} 0 1 = cc in
    omega arith
