use Rattle.std.proofs.Common.{◌+◌, rules}
use Rattle.source.specs.Content.{meaning}
use Rattle.property.specs.Fields.{behind}
use Rattle.property.specs.Values.{sized_value, sized_values}
use Rattle.property.proofs.Runs.{stepped_behind}
use Rattle.property.proofs.values.sized_values.Goals as goal

pub returns-clause-reads : goal.returns-clause-reads
unfolding sized_values
returns-clause-reads g c =
    let e = c.behind_each.ensures.reads (λ xs p. behind (sized_value xs c.args.end c.args.start c.args.kind p)) (λ x y p r h k. search rules) in
    let s = stepped_behind (sized_value (meaning (g.S.Source.content c.args.source.now)) c.args.end c.args.start c.args.kind) c.in_ok-count.count (c.args.place + 4) in
    search rules
