use Rattle.std.proofs.Common.{refl, arith}
use Rattle.source.specs.Content.{meaning}
use Rattle.attribute.specs.Table.{attribute, recipients_id}
use Rattle.attribute.specs.declared.Rule.TheVariants.{Recipients}
use Rattle.form.proofs.Found.{table_held}
use Rattle.form.proofs.Tells.{recipients_known}
use Rattle.amend.proofs.Counts.{table_there, table_none}
use Rattle.amend.proofs.tables.table_in.Goals as goal

pub returns-in_default-clause-value : goal.returns-in_default-clause-value
returns-in_default-clause-value g c = table_none (meaning (g.S.Source.content c.args.source.now)) c.args.rows.now c.in_default.ensures

pub number_at-count-requires : goal.number_at-count-requires
number_at-count-requires g c =
    let (_, h) = table_held (meaning (g.S.Source.content c.args.source.now)) c.args.rows.now c.requires (attribute recipients_id 1 Recipients) c.in-Some.row c.in-Some.ensures recipients_known refl in
    omega (arith, h.room, h.within)

pub overflow_add-result : goal.overflow_add-result
overflow_add-result g c =
    let (_, h) = table_held (meaning (g.S.Source.content c.args.source.now)) c.args.rows.now c.requires (attribute recipients_id 1 Recipients) c.in-Some.row c.in-Some.ensures recipients_known refl in
    omega (arith, h.room, h.within, c.len-total.ensures.value, c.len-total.ensures.bound)

pub overflow_add-result-2 : goal.overflow_add-result-2
overflow_add-result-2 g c =
    let (_, h) = table_held (meaning (g.S.Source.content c.args.source.now)) c.args.rows.now c.requires (attribute recipients_id 1 Recipients) c.in-Some.row c.in-Some.ensures recipients_known refl in
    omega (arith, h.within, c.len-total.ensures.value, c.len-total.ensures.bound)

pub returns-clause-value : goal.returns-clause-value
returns-clause-value g c =
    let xs = meaning (g.S.Source.content c.args.source.now) in
    let (ts, h) = table_held xs c.args.rows.now c.requires (attribute recipients_id 1 Recipients) c.in-Some.row c.in-Some.ensures recipients_known refl in
    table_there xs c.args.rows.now c.in-Some.row ts h _ c.number_at-count.ensures.value
