use Rattle.std.proofs.Common.{◌+◌, ◌≤◌, length, rules}
use Rattle.source.specs.Content.{meaning}
use Rattle.pen.proofs.Pens.{◌▷◌}
use Rattle.property.specs.Fields.{at}
use Rattle.property.specs.Lists.{list_limit}
use Rattle.listform.proofs.ListForms.{table_in, table_form}
use Rattle.listform.proofs.lists.write_table.Goals as goal

pub returns-then-end-len-clause-value : goal.returns-then-end-len-clause-value
returns-then-end-len-clause-value g c = λ rs e l m.
    let fits = (table_in (meaning (g.S.Source.content c.args.source.now)) c.args.end c.args.base rs e).0 in
    let not : c.args.end ≤ length (meaning (g.S.Source.content c.args.source.now)) → list_limit ≤ length c.args.lent.now → c.args.base + 4 ≤ c.args.end → ⊥ = search rules in
    absurd (not l m fits)

pub returns-clause-value : goal.returns-clause-value
returns-clause-value g c =
    let h = c.number_at-count.ensures in
    let all = rw (h.same, h.value) at c.write_lists.ensures.value in
    λ rs e l m.
    let (fits, n, r) = table_in (meaning (g.S.Source.content c.args.source.now)) c.args.end c.args.base rs e in
    rw (← table_form rs, ← n, ← h.value) (c.put_le.ensures ▷ all (at rs c.args.end) r)
