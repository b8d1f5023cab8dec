use Rattle.std.proofs.Common.{◌≡◌, ◌-◌, ◌<◌, ◌≤◌}
use Rattle.source.specs.Content.{meaning, source_limit}
use Rattle.stream.proofs.Judging.{rest_at}
use Rattle.stream.proofs.judge.Given as goal

abbrev pub invariant-loop-frame : goal.invariant-loop-frame
invariant-loop-frame g l =
    (g.S.Source.content l.source ≡ g.S.Source.content l.initial.source)
    × (0 < l.at.place) × (l.at.place ≤ source_limit)
    × (rest_at (meaning (g.S.Source.content l.initial.source)) l.at.place l.at.stage
    ≡ rest_at (meaning (g.S.Source.content l.initial.source)) l.initial.at.place l.initial.at.stage)

abbrev pub decreases-loop-frame : goal.decreases-loop-frame
decreases-loop-frame g l = source_limit - l.at.place
