use Rattle.std.proofs.Common.{◌≡◌, ◌-◌, length}
use Rattle.source.specs.Content.{meaning}
use Rattle.form.proofs.Gathers.{Gathering}
use Rattle.form.proofs.targets.gather.Given as goal

abbrev pub invariant-loop-frame : goal.invariant-loop-frame
invariant-loop-frame g l =
    (g.S.Source.content l.source ≡ g.S.Source.content l.initial.source)
    × Gathering (meaning (g.S.Source.content l.initial.source)) l.initial.at.place l.initial.at.stage l.rows l.at.place l.at.stage

abbrev pub decreases-loop-frame : goal.decreases-loop-frame
decreases-loop-frame g l = length (meaning (g.S.Source.content l.initial.source)) - l.at.place
