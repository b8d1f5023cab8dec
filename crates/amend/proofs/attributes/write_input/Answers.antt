use Rattle.amend.proofs.Slots.{whole_part, whole_admitted}
use Rattle.amend.proofs.attributes.write_input.Goals as goal

pub write_row-requires-clause-good : goal.write_row-requires-clause-good
write_row-requires-clause-good g c = whole_admitted _ _ _ c.len-size.ensures.value c.requires.good

pub returns-clause-value : goal.returns-clause-value
returns-clause-value g c = rw (whole_part _ _ c.len-size.ensures.value) at c.write_row.ensures.value
