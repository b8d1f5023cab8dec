use Rattle.std.proofs.Common.{map, sym, ap, ◌∙◌}
use Rattle.std.proofs.lemmas.List.{length-map}
use Rattle.source.specs.Content.{meaning}
use Rattle.pen.proofs.Pens.{pen_none, ◌▷◌}
use Rattle.property.specs.Lists.{indexed}
use Rattle.form.proofs.Framings.{pen_closable, pen_frame}
use Rattle.amend.specs.Tables.{count_after}
use Rattle.amend.proofs.Counts.{all_rows, table_framed, table_empty, table_of}
use Rattle.amend.proofs.tables.write_changed_recipients.Goals as goal

pub returns-then-count-eq0-clause-value : goal.returns-then-count-eq0-clause-value
returns-then-count-eq0-clause-value g c = λ ρ m.
    let t = c.table_in-table.ensures in
    let all = all_rows (meaning (g.T.Source.content c.args.input.now)) c.args.rowing ρ m (map indexed _) in
    let n = ap (count_after c.args.rowing) (t.value.counted ∙ sym (length-map _ indexed)) in
    rw (table_empty _ (sym all.count ∙ (sym n ∙ (sym c.count_after-count.ensures ∙ c.if-count-eq0.true)))) pen_none

pub pen_close-requires : goal.pen_close-requires
pen_close-requires g c =
    let t = c.table_in-table.ensures in
    let (ρ, m) = c.requires.meant in
    let rows = (rw t.same at c.write_turns.ensures.value) ρ m _ t.value.reads in
    let w = c.put_le.ensures ▷ (rows ▷ c.write_added.ensures) in
    record { closable = pen_closable c.pen_open-start.ensures w; out_len_bound = rw (w.kept, c.pen_open-start.ensures.same) c.requires.fits }

pub returns-clause-value : goal.returns-clause-value
returns-clause-value g c = λ ρ m.
    let t = c.table_in-table.ensures in
    let all = all_rows (meaning (g.T.Source.content c.args.input.now)) c.args.rowing ρ m (map indexed _) in
    let n = ap (count_after c.args.rowing) (t.value.counted ∙ sym (length-map _ indexed)) in
    let rows = (rw t.same at c.write_turns.ensures.value) ρ m _ t.value.reads in
    let w = c.put_le.ensures ▷ (rows ▷ c.write_added.ensures) in
    let size = c.count_after-count.ensures ∙ (n ∙ all.count) in
    rw (table_framed _ (λ z. c.if-count-eq0.false (size ∙ z)), ← table_of _ _ _ size all.bytes) (pen_frame c.pen_open-start.ensures w c.pen_close.ensures)
