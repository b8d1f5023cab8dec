-- How the states of the scan of digits go on; `Digits` says what digits are.
use Rattle.std.specs.Prelude.{ℕ, Bool, true, false, cond, is_some, ◌==◌}
use Rattle.contents.specs.declared.digits.Pairs.{Pairs}
use Rattle.contents.specs.declared.digits.Pairs.TheVariants.{Even, Odd, Closed, Broken}
use Rattle.contents.specs.Digits.{digit}

abbrev pub pair_step : Pairs → ℕ → Pairs
pair_step Even b = cond (b == 0) Closed (cond (is_some (digit b)) Odd Broken)
pair_step Odd b = cond (is_some (digit b)) Even Broken
pair_step Closed b = Broken
pair_step Broken b = Broken

abbrev pub pairs_closed : Pairs → Bool
pairs_closed Even = false
pairs_closed Odd = false
pairs_closed Closed = true
pairs_closed Broken = false
