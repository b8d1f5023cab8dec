use Rattle.std.proofs.Common.{sym, ◌∙◌}
use Rattle.source.specs.Content.{meaning}
use Rattle.pen.proofs.Pens.{pen_none}
use Rattle.form.proofs.Framings.{pen_frame}
use Rattle.amend.proofs.Indices.{indexed_cut, list_framed, list_empty}
use Rattle.amend.proofs.lists.write_changed_properties.Goals as goal

pub cut_count-requires : goal.cut_count-requires
cut_count-requires g c =
    let (l, m) = c.requires.meant in
    let i = c.index_list-count.ensures in
    let w = (indexed_cut _ (meaning (g.T.Source.content c.args.input.now)) _ _ _ i.value c.args.listing l m _ c.cut_of-cut.ensures).fits in
    (w.few, (w.front, w.back))

pub returns-then-cut_count-eq0-clause-value : goal.returns-then-cut_count-eq0-clause-value
returns-then-cut_count-eq0-clause-value g c = λ l m.
    let i = c.index_list-count.ensures in
    let w = indexed_cut _ (meaning (g.T.Source.content c.args.input.now)) _ _ _ i.value c.args.listing l m _ c.cut_of-cut.ensures in
    rw (list_empty c.args.attribute.id _ (sym w.count ∙ (sym c.cut_count.ensures ∙ c.if-cut_count-eq0.true))) pen_none

pub write_cut-requires : goal.write_cut-requires
write_cut-requires g c =
    let (l, m) = c.requires.meant in
    let i = c.index_list-count.ensures in
    rw i.same (indexed_cut _ (meaning (g.T.Source.content c.args.input.now)) _ _ _ i.value c.args.listing l m _ c.cut_of-cut.ensures).fits

pub returns-clause-value : goal.returns-clause-value
returns-clause-value g c = λ l m.
    let i = c.index_list-count.ensures in
    let w = indexed_cut _ (meaning (g.T.Source.content c.args.input.now)) _ _ _ i.value c.args.listing l m _ c.cut_of-cut.ensures in
    let body = rw (i.same, w.form) at c.write_cut.ensures.value in
    rw (list_framed c.args.attribute c.requires.listed.known _ (λ z. c.if-cut_count-eq0.false (c.cut_count.ensures ∙ (w.count ∙ z))))
    (pen_frame c.pen_open-start.ensures body c.pen_close.ensures)
