use Rattle.std.proofs.Common.{◌∙◌, arith}
use Rattle.pen.proofs.Pens.{leads_on, leads_end}
use Rattle.form.proofs.Beginnings.{past_rendered, attached_more, none_left}
use Rattle.form.proofs.attachments.write_attachments.Goals as goal

pub loop-at-preserved : goal.loop-at-preserved
loop-at-preserved g c =
    let (same, kept, good, first, leads) = c.loop-at.invariant in
    let n = c.write_next.ensures in
    let v = rw same at n.value in
    let more = attached_more _ _ _ good first (omega (arith, c.loop-at-test.true, c.len-total.ensures.value)) _ _ v.rest in
    (n.same ∙ same, v.penned.kept ∙ kept, v.good, rw v.rest (past_rendered _), leads_on leads more v.penned)

pub returns-clause-value : goal.returns-clause-value
returns-clause-value g c =
    let (same, kept, good, first, leads) = c.loop-at.invariant in
    leads_end leads (none_left _ _ _ good (omega (arith, c.loop-at-test.false, c.len-total.ensures.value)))
