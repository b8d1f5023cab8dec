use Rattle.source.specs.Content.{meaning}
use Rattle.amend.proofs.NewPages.{page_admitted, page_new, page_kept}
use Rattle.amend.proofs.pages.write_changed_page.Goals as goal

pub write_input-requires-clause-good : goal.write_input-requires-clause-good
write_input-requires-clause-good g c = let (o, m) = c.requires.meant in page_admitted _ o (rw c.if-page.true at m)

pub returns-then-page-clause-value : goal.returns-then-page-clause-value
returns-then-page-clause-value g c = λ n t o m. rw (page_new _ _ _ o (rw c.if-page.true at m)) c.write_input.ensures.value

pub returns-else-page-clause-value : goal.returns-else-page-clause-value
returns-else-page-clause-value g c = λ n t o m.
    rw (page_kept (meaning (g.T.Source.content c.args.input.now)) _ _ o (rw c.if-page.false at m)) (c.write_page.ensures.value n t)
