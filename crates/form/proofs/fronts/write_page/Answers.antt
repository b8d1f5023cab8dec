use Rattle.form.proofs.Pages.{page_admitted, page_framed, page_absent}
use Rattle.form.proofs.fronts.write_page.Goals as goal

pub write_row-requires-clause-good : goal.write_row-requires-clause-good
write_row-requires-clause-good g c = page_admitted _ c.args.rows.now c.requires.sound _ c.in-Some.ensures

pub returns-in-Some-clause-value : goal.returns-in-Some-clause-value
returns-in-Some-clause-value g c = λ n t. rw (page_framed _ c.args.rows.now c.requires.sound _ c.in-Some.ensures) c.write_row.ensures.value

pub returns-in_default-clause-value : goal.returns-in_default-clause-value
returns-in_default-clause-value g c = λ n t. absurd (page_absent _ c.args.rows.now n c.in_default.ensures t)
