use Rattle.std.proofs.Common.{unwrap_or, sym, ap, ◌∙◌}
use Rattle.lookup.proofs.Paged.{page_found, page_lost}
use Rattle.lookup.proofs.attributes.primary.Goals as goal

pub returns-in_default-clause-value : goal.returns-in_default-clause-value
returns-in_default-clause-value g c = sym (page_lost _ c.message_rows-rows.result c.in_default.ensures) ∙ c.message_rows-rows.ensures.value.page

pub returns-clause-value : goal.returns-clause-value
returns-clause-value g c =
    let t = c.message_rows-rows.ensures in
    c.unwrap_or-2.ensures ∙ ap (λ o. unwrap_or o 0) c.unwrap_or.ensures
    ∙ page_found _ c.message_rows-rows.result t.value.own.sound _ c.in-Some.ensures _ (rw t.same at c.code_page_at-page.ensures.value) ∙ t.value.page
