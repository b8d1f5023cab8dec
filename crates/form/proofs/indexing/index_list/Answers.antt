use Rattle.std.proofs.Common.{◌≡◌, List, length, sym, ap, ◌∙◌, arith}
use Rattle.source.specs.Content.{meaning}
use Rattle.property.specs.Fields.{At}
use Rattle.property.specs.Lists.{Property}
use Rattle.source.proofs.Outcomes.{ok_same}
use Rattle.listform.proofs.ListForms.{list_in}
use Rattle.form.proofs.Found.{list_held}
use Rattle.form.proofs.Indices.{indexed_here, indexed_got, own_held, own_none, none_indexed}
use Rattle.form.proofs.indexing.index_list.Goals as goal

pub returns-in_default-clause-value : goal.returns-in_default-clause-value
returns-in_default-clause-value g c =
    let xs = meaning (g.S.Source.content c.args.source.now) in
    rw (own_none xs c.args.rows.now c.args.attribute c.in_default.ensures) (none_indexed xs c.args.lent.now)

pub overflow_add-row : goal.overflow_add-row
overflow_add-row g c =
    let (_, h) = list_held (meaning (g.S.Source.content c.args.source.now)) c.args.rows.now c.requires.sound c.args.attribute c.in-Some.row c.in-Some.ensures c.requires.listed in
    omega (arith, h.within, c.len-total.ensures.value, c.len-total.ensures.bound)

pub unwrap-requires : goal.unwrap-requires
unwrap-requires g c =
    let xs = meaning (g.S.Source.content c.args.source.now) in
    let (ps, h) = list_held xs c.args.rows.now c.requires.sound c.args.attribute c.in-Some.row c.in-Some.ensures c.requires.listed in
    indexed_got xs _ _ _ h.within c.requires.room _ _ c.rows.ensures.reads _ (list_in xs _ _ ps h.reads)

pub returns-clause-value : goal.returns-clause-value
returns-clause-value g c =
    let xs = meaning (g.S.Source.content c.args.source.now) in
    let (ps, h) = list_held xs c.args.rows.now c.requires.sound c.args.attribute c.in-Some.row c.in-Some.ensures c.requires.listed in
    let (qs, is, indexed, _) = indexed_here xs _ _ (length c.args.lent.now) h.within c.requires.room _ c.unwrap.result (rw c.unwrap.ensures at c.rows.ensures.reads) in
    let same : qs ≡ ps = ap (λ (a : At (List Property)). a.what) (ok_same _ _ (sym is ∙ list_in xs _ _ ps h.reads)) in
    rw (own_held xs c.args.rows.now c.args.attribute _ ps h, ← same) indexed
