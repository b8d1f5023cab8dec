use Rattle.std.proofs.Common.{◌≡◌, ◌-◌, length}
use Rattle.source.specs.Content.{meaning}
use Rattle.pen.specs.Pen.{Leads}
use Rattle.form.specs.Targets.{remaining, Readable}
use Rattle.form.specs.Wholes.{Rendered, all_attached}
use Rattle.form.proofs.attachments.write_attachments.Given as goal

abbrev pub invariant-loop-at : goal.invariant-loop-at
invariant-loop-at g l =
    let xs = meaning (g.S.Source.content l.initial.source) in
    (g.S.Source.content l.source ≡ g.S.Source.content l.initial.source) × (length l.pen.out.now ≡ length l.initial.pen.out.now)
    × Readable xs l.at.place l.at.stage × Rendered (remaining xs l.at.place l.at.stage)
    × Leads l.initial.pen (all_attached (remaining xs l.initial.at.place l.initial.at.stage)) l.pen (all_attached (remaining xs l.at.place l.at.stage))

abbrev pub decreases-loop-at : goal.decreases-loop-at
decreases-loop-at g l = l.total - l.at.place
