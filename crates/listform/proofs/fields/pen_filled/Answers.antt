use Rattle.pen.proofs.Pens.{◌▷◌}
use Rattle.property.specs.Fields.{filled}
use Rattle.listform.proofs.fields.pen_filled.Goals as goal

pub returns : goal.returns
unfolding filled
returns c = c.put.ensures ▷ (rw c.gap.ensures at c.put_zeros.ensures)
