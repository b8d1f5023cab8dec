use Rattle.std.proofs.Common.{length}
use Rattle.source.specs.Content.{meaning}
use Rattle.listform.proofs.ListForms.{list_refused}
use Rattle.form.proofs.Indices.{indexed_here}
use Rattle.amend.proofs.Indices.{indexed_cut}
use Rattle.amend.proofs.Turns.{turn_some, turn_writes, turn_leaves}
use Rattle.amend.proofs.tables.write_turn.Goals as goal

pub returns-in_default-clause-value : goal.returns-in_default-clause-value
returns-in_default-clause-value g c = λ t m a f.
    absurd (list_refused (meaning (g.S.Source.content c.args.source.now)) c.args.end c.args.place (length c.args.lent.now) c.requires.within c.requires.room c.rows.new.lent _ c.in_default.ensures.reads a f)

pub write_cut-requires : goal.write_cut-requires
write_cut-requires g c =
    let xs = meaning (g.S.Source.content c.args.source.now) in
    let ys = meaning (g.T.Source.content c.args.input.now) in
    let h = c.in-Ok.ensures in
    let (ps, is, indexed, size) = indexed_here xs c.args.end c.args.place (length c.args.lent.now) c.requires.within c.requires.room _ c.in-Ok.listed h.reads in
    let (t, m) = c.requires.meant in
    let (k, _, means) = turn_some ys c.args.turn c.in-Some.listing c.in-Some.is t m in
    rw h.same (indexed_cut xs ys _ c.in-Ok.listed.count ps indexed c.in-Some.listing k means _ c.cut_of.ensures).fits

pub returns-clause-value : goal.returns-clause-value
returns-clause-value g c =
    let xs = meaning (g.S.Source.content c.args.source.now) in
    let ys = meaning (g.T.Source.content c.args.input.now) in
    let h = c.in-Ok.ensures in
    let (ps, is, indexed, size) = indexed_here xs c.args.end c.args.place (length c.args.lent.now) c.requires.within c.requires.room _ c.in-Ok.listed h.reads in
    turn_writes xs ys c.args.turn c.args.place c.args.end ps c.in-Ok.listed.next is c.in-Some.listing c.in-Some.is
    (λ k means. rw (← (indexed_cut xs ys _ c.in-Ok.listed.count ps indexed c.in-Some.listing k means _ c.cut_of.ensures).form) (rw h.same at c.write_cut.ensures.value))

pub returns-in_default-turn-clause-value : goal.returns-in_default-turn-clause-value
returns-in_default-turn-clause-value g c =
    let xs = meaning (g.S.Source.content c.args.source.now) in
    let ys = meaning (g.T.Source.content c.args.input.now) in
    let (ps, is, _, _) = indexed_here xs c.args.end c.args.place (length c.args.lent.now) c.requires.within c.requires.room _ c.in-Ok.listed c.in-Ok.ensures.reads in
    turn_leaves xs ys c.args.turn c.args.place c.args.end ps c.in-Ok.listed.next is c.in_default-turn.is
