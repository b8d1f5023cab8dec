use Rattle.contents.proofs.Writes.{written_own, written_digits}
use Rattle.contents.proofs.writing.write_normal.Goals as goal

pub returns-in-Text-clause-value : goal.returns-in-Text-clause-value
returns-in-Text-clause-value g c = let h = c.write_same.ensures in written_own _ _ _ _ c.in-Text.is h.octets h.value

pub returns-in-Digits-clause-value : goal.returns-in-Digits-clause-value
returns-in-Digits-clause-value g c = written_digits _ _ _ _ c.in-Digits.is c.pen_capitals.ensures.value
