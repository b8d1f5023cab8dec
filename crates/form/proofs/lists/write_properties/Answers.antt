use Rattle.std.proofs.Common.{sym, ◌∙◌, arith}
use Rattle.std.proofs.lemmas.Bool.{eqb-true, eqb-false}
use Rattle.source.specs.Content.{meaning}
use Rattle.pen.proofs.Pens.{pen_none}
use Rattle.form.proofs.Framings.{pen_closable, pen_frame}
use Rattle.form.proofs.Found.{list_held, list_absent, list_short, list_long}
use Rattle.form.proofs.lists.write_properties.Goals as goal

pub returns-in_default-clause-value : goal.returns-in_default-clause-value
returns-in_default-clause-value g c =
    rw (list_absent (meaning (g.S.Source.content c.args.source.now)) c.args.rows.now c.args.attribute c.in_default.ensures) pen_none

pub returns-then-is_empty-clause-value : goal.returns-then-is_empty-clause-value
returns-then-is_empty-clause-value g c =
    let (ps, h) = list_held _ c.args.rows.now c.requires.sound c.args.attribute c.in-Some.row c.in-Some.ensures c.requires.listed in
    let z = eqb-true _ 0 (sym (c.is_empty.ensures.value h.room) ∙ c.if-is_empty.true) in
    rw (list_short _ c.args.rows.now c.args.attribute _ ps h z) pen_none

pub overflow_add-row : goal.overflow_add-row
overflow_add-row g c =
    let (_, h) = list_held _ c.args.rows.now c.requires.sound c.args.attribute c.in-Some.row c.in-Some.ensures c.requires.listed in
    omega (arith, h.within, c.len-total.ensures.value, c.len-total.ensures.bound)

pub pen_close-requires : goal.pen_close-requires
pen_close-requires g c =
    let (ps, h) = list_held _ c.args.rows.now c.requires.sound c.args.attribute c.in-Some.row c.in-Some.ensures c.requires.listed in
    let w = (rw c.is_empty.ensures.same at c.write_list.ensures.value) ps h.reads h.within c.requires.room in
    record { closable = pen_closable c.pen_open-start.ensures w; out_len_bound = rw (w.kept, c.pen_open-start.ensures.same) c.requires.fits }

pub returns-clause-value : goal.returns-clause-value
returns-clause-value g c =
    let (ps, h) = list_held _ c.args.rows.now c.requires.sound c.args.attribute c.in-Some.row c.in-Some.ensures c.requires.listed in
    let n = eqb-false _ 0 (sym (c.is_empty.ensures.value h.room) ∙ c.if-is_empty.false) in
    let w = (rw c.is_empty.ensures.same at c.write_list.ensures.value) ps h.reads h.within c.requires.room in
    rw (list_long _ c.args.rows.now c.args.attribute _ ps c.requires.listed.known h n) (pen_frame c.pen_open-start.ensures w c.pen_close.ensures)
