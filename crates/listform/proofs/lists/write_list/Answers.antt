use Rattle.source.specs.Content.{meaning}
use Rattle.property.specs.Fields.{at}
use Rattle.listform.proofs.ListForms.{list_in}
use Rattle.listform.proofs.lists.write_list.Goals as goal

pub returns-clause-value : goal.returns-clause-value
returns-clause-value g c = λ ps e l m.
    (c.write_list_at.ensures.value (at ps c.args.end) (list_in (meaning (g.S.Source.content c.args.source.now)) c.args.end c.args.base ps e)).1
