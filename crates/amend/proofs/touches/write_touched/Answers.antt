use Rattle.std.proofs.Common.{sym, ◌∙◌, subst, arith}
use Rattle.source.specs.Content.{meaning}
use Rattle.pen.proofs.Pens.{pen_none, ◌▷◌}
use Rattle.form.specs.Targets.{remaining}
use Rattle.form.specs.Wholes.{Rendered}
use Rattle.amend.proofs.Attached.{behind_rendered, change_bytes}
use Rattle.amend.proofs.Touching.{none_touched, first_parted}
use Rattle.amend.proofs.touches.write_touched.Goals as goal

pub returns-then-at-total-clause-value : goal.returns-then-at-total-clause-value
returns-then-at-total-clause-value g c = λ τ m.
    let n = c.write_first.ensures in
    rw (change_bytes _ c.args.number τ _ n.value.rest)
    (n.value.penned ▷ rw (none_touched _ _ _ n.value.good τ (omega (arith, c.if-at-total.true, c.len-total.ensures.value))) pen_none)

pub write_attachments-requires-clause-rendered : goal.write_attachments-requires-clause-rendered
write_attachments-requires-clause-rendered g c =
    let t = c.gather-rows.ensures in
    let w = c.write_touched_attachment.ensures in
    subst (λ l. Rendered (remaining (meaning l) c.gather-rows.new.at.place c.gather-rows.new.at.stage)) (sym (w.same ∙ t.same)) (behind_rendered _ _ t.value.rest)

pub returns-clause-value : goal.returns-clause-value
returns-clause-value g c = λ τ m.
    let n = c.write_first.ensures in
    let t = c.gather-rows.ensures in
    let w = c.write_touched_attachment.ensures in
    let a = c.write_attachments.ensures in
    let v = rw n.same at t.value in
    let f = first_parted _ _ _ n.value.good τ n.value.rendered (omega (arith, c.if-at-total.false, c.len-total.ensures.value)) _ _ _ v in
    rw (change_bytes _ c.args.number τ _ n.value.rest)
    (n.value.penned ▷ rw f ((rw (t.same ∙ n.same, c.as_slice.ensures) at (w.value τ m)) ▷ (rw (w.same ∙ t.same ∙ n.same) at a.value)))
