use Rattle.std.proofs.Common.{sym, ◌∙◌, subst}
use Rattle.source.specs.Content.{meaning}
use Rattle.pen.proofs.Pens.{◌▷◌}
use Rattle.form.specs.Targets.{remaining}
use Rattle.form.specs.Wholes.{Rendered}
use Rattle.amend.proofs.Attached.{behind_rendered, behind_bytes, without_bytes}
use Rattle.amend.proofs.attachments.write_without.Goals as goal

pub write_attachments-requires-clause-rendered : goal.write_attachments-requires-clause-rendered
write_attachments-requires-clause-rendered g c =
    let n = c.write_first.ensures in
    let t = c.gather.ensures in
    subst (λ l. Rendered (remaining (meaning l) c.gather.new.at.place c.gather.new.at.stage)) (sym t.same) (behind_rendered _ _ t.value.rest)

pub returns-clause-value : goal.returns-clause-value
returns-clause-value g c =
    let n = c.write_first.ensures in
    let t = c.gather.ensures in
    let v = rw n.same at t.value in
    let e = behind_bytes _ _ n.value.rendered v.rest in
    rw (without_bytes _ c.args.number _ n.value.rest) (n.value.penned ▷ rw (← e) (rw (t.same ∙ n.same) at c.write_attachments.ensures.value))
