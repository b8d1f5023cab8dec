use Rattle.pen.proofs.Pens.{◌▷◌}
use Rattle.listform.specs.Forms.{row_form}
use Rattle.listform.proofs.rows.write_row.Goals as goal

pub returns-clause-value : goal.returns-clause-value
unfolding row_form
returns-clause-value g c = rw (← c.shape_of.ensures, c.unwrap-shape.ensures) (c.put_le.ensures ▷ (c.pen_key.ensures ▷ c.write_values.ensures.value))
