use Rattle.std.proofs.Common.{◌+◌, rules}
use Rattle.source.specs.Content.{meaning}
use Rattle.property.specs.Fields.{behind, count_at}
use Rattle.property.specs.Lists.{list_at, table_at}
use Rattle.property.proofs.Runs.{stepped_behind}
use Rattle.property.proofs.lists.table_at.Goals as goal

pub returns-clause-reads : goal.returns-clause-reads
unfolding count_at table_at
returns-clause-reads g c =
    let e = c.behind_each.ensures.reads (λ xs p. behind (list_at xs c.args.end p)) (λ x y p r h k. search rules) in
    let s = stepped_behind (list_at (meaning (g.S.Source.content c.args.source.now)) c.args.end) c.in_ok-count.count (c.args.place + 4) in
    search rules
