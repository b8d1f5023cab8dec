use Rattle.std.proofs.Common.{◌-◌, ◌≤◌}
use Rattle.source.specs.Content.{source_limit}
use Rattle.frame_cases.proofs.tests.count.Given as goal

abbrev pub invariant-loop-frame : goal.invariant-loop-frame
invariant-loop-frame g l = (l.count ≤ l.at.place) × (l.at.place ≤ source_limit)

abbrev pub decreases-loop-frame : goal.decreases-loop-frame
decreases-loop-frame g l = source_limit - l.at.place
