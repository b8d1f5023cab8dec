use Rattle.std.proofs.Common.{◌≡◌, ◌-◌, length, take, drop}
use Rattle.source.specs.Content.{meaning}
use Rattle.pen.specs.Pen.{Leads}
use Rattle.form.specs.Targets.{remaining, Readable}
use Rattle.form.specs.Wholes.{Rendered}
use Rattle.amend.specs.Attachments.{attachments_in, attachments_bytes}
use Rattle.amend.proofs.attachments.write_first.Given as goal

abbrev pub invariant-loop : goal.invariant-loop
invariant-loop g l =
    let xs = meaning (g.S.Source.content l.initial.source) in
    let all = attachments_in (remaining xs l.initial.at.place l.initial.at.stage) in
    let left = attachments_in (remaining xs l.at.place l.at.stage) in
    (g.S.Source.content l.source ≡ g.S.Source.content l.initial.source) × (length l.pen.out.now ≡ length l.initial.pen.out.now)
    × Readable xs l.at.place l.at.stage × Rendered (remaining xs l.at.place l.at.stage)
    × (drop (l.count - l.counter) left ≡ drop l.count all)
    × Leads l.initial.pen (attachments_bytes (take l.count all)) l.pen (attachments_bytes (take (l.count - l.counter) left))
