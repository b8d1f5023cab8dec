use Rattle.std.proofs.Common.{◌≡◌, ◌-◌, ◌*◌, ◌≤◌}
use Rattle.contents.specs.Calendar.{days_before}
use Rattle.contents.proofs.dates.days_ahead.Given as goal

abbrev pub invariant-loop-m : goal.invariant-loop-m
invariant-loop-m l = (l.days ≡ days_before l.year (l.m - 1)) × (l.days ≤ 31 * (l.m - 1)) × (l.m - 1 ≤ l.month - 1)
