use Rattle.source.specs.Content.{meaning}
use Rattle.pen.proofs.Pens.{pen_none}
use Rattle.form.proofs.Holds.{row_admitted, bytes_some, bytes_none}
use Rattle.form.proofs.attributes.write_attribute.Goals as goal

pub write_row-requires-clause-good : goal.write_row-requires-clause-good
write_row-requires-clause-good g c = row_admitted _ c.args.attribute c.requires.simple _ _ c.requires.sound c.in-Some.ensures

pub returns-in-Some-clause-value : goal.returns-in-Some-clause-value
returns-in-Some-clause-value g c = rw (bytes_some _ c.args.attribute c.requires.simple _ _ c.requires.sound c.in-Some.ensures) c.write_row.ensures.value

pub returns-in_default-clause-value : goal.returns-in_default-clause-value
returns-in_default-clause-value g c =
    rw (bytes_none (meaning (g.S.Source.content c.args.source.now)) c.args.attribute c.requires.simple _ c.in_default.ensures) pen_none
