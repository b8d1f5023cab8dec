use Rattle.std.proofs.Common.{◌-◌, ◌≤◌}
use Rattle.source.specs.Content.{source_limit}
use Rattle.frames.proofs.print_frames.Given as goal

abbrev pub invariant-loop-refusal : goal.invariant-loop-refusal
invariant-loop-refusal g l = (l.count ≤ l.at.place) × (l.at.place ≤ source_limit)

abbrev pub decreases-loop-refusal : goal.decreases-loop-refusal
decreases-loop-refusal g l = source_limit - l.at.place
