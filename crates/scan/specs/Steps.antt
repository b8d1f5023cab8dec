-- How the states of the text scans go on; `Texts` says what text is.
use Rattle.std.specs.Prelude.{ℕ, Bool, true, false, cond, ◌==◌}
use Rattle.scan.specs.declared.texts.Text.{Text}
use Rattle.scan.specs.declared.texts.Text.TheVariants as text
use Rattle.scan.specs.declared.texts.Units.{Units}
use Rattle.scan.specs.declared.texts.Units.TheVariants as units

abbrev pub text_step : Text → ℕ → Text
text_step text.Open b = cond (b == 0) text.Closed text.Open
text_step text.Closed b = text.Broken
text_step text.Broken b = text.Broken

abbrev pub text_closed : Text → Bool
text_closed text.Open = false
text_closed text.Closed = true
text_closed text.Broken = false

abbrev pub unit_step : Units → ℕ → Units
unit_step units.Open b = cond (b == 0) units.Zero units.Other
unit_step units.Zero b = cond (b == 0) units.Closed units.Open
unit_step units.Other b = units.Open
unit_step units.Closed b = units.Broken
unit_step units.Broken b = units.Broken

abbrev pub units_closed : Units → Bool
units_closed units.Open = false
units_closed units.Zero = false
units_closed units.Other = false
units_closed units.Closed = true
units_closed units.Broken = false
