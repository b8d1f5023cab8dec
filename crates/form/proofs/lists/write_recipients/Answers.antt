use Rattle.std.proofs.Common.{sym, refl, ◌∙◌, arith}
use Rattle.std.proofs.lemmas.Bool.{eqb-true, eqb-false}
use Rattle.source.specs.Content.{meaning}
use Rattle.attribute.specs.Table.{attribute, recipients_id}
use Rattle.attribute.specs.declared.Rule.TheVariants.{Recipients}
use Rattle.pen.proofs.Pens.{pen_none}
use Rattle.form.proofs.Framings.{pen_closable, pen_frame}
use Rattle.form.proofs.Found.{table_held, table_absent, table_short, table_long}
use Rattle.form.proofs.Tells.{recipients_known}
use Rattle.form.proofs.lists.write_recipients.Goals as goal

pub returns-in_default-clause-value : goal.returns-in_default-clause-value
returns-in_default-clause-value g c = rw (table_absent (meaning (g.S.Source.content c.args.source.now)) c.args.rows.now c.in_default.ensures) pen_none

pub returns-then-is_empty-clause-value : goal.returns-then-is_empty-clause-value
returns-then-is_empty-clause-value g c =
    let (ps, h) = table_held _ c.args.rows.now c.requires.sound (attribute recipients_id 1 Recipients) c.in-Some.row c.in-Some.ensures recipients_known refl in
    let z = eqb-true _ 0 (sym (c.is_empty.ensures.value h.room) ∙ c.if-is_empty.true) in
    rw (table_short _ c.args.rows.now _ ps h z) pen_none

pub overflow_add-row : goal.overflow_add-row
overflow_add-row g c =
    let (_, h) = table_held _ c.args.rows.now c.requires.sound (attribute recipients_id 1 Recipients) c.in-Some.row c.in-Some.ensures recipients_known refl in
    omega (arith, h.within, c.len-total.ensures.value, c.len-total.ensures.bound)

pub pen_close-requires : goal.pen_close-requires
pen_close-requires g c =
    let (ps, h) = table_held _ c.args.rows.now c.requires.sound (attribute recipients_id 1 Recipients) c.in-Some.row c.in-Some.ensures recipients_known refl in
    let w = (rw c.is_empty.ensures.same at c.write_table.ensures.value) ps h.reads h.within c.requires.room in
    record { closable = pen_closable c.pen_open-start.ensures w; out_len_bound = rw (w.kept, c.pen_open-start.ensures.same) c.requires.fits }

pub returns-clause-value : goal.returns-clause-value
returns-clause-value g c =
    let (ps, h) = table_held _ c.args.rows.now c.requires.sound (attribute recipients_id 1 Recipients) c.in-Some.row c.in-Some.ensures recipients_known refl in
    let n = eqb-false _ 0 (sym (c.is_empty.ensures.value h.room) ∙ c.if-is_empty.false) in
    let w = (rw c.is_empty.ensures.same at c.write_table.ensures.value) ps h.reads h.within c.requires.room in
    rw (table_long _ c.args.rows.now _ ps h n) (pen_frame c.pen_open-start.ensures w c.pen_close.ensures)
