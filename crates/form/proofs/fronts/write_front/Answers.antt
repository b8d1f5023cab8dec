use Rattle.source.specs.Bytes.{le}
use Rattle.attribute.specs.Table.{attribute_of}
use Rattle.stream.specs.Writing.{write_entry}
use Rattle.form.proofs.fronts.write_front.Goals as goal

pub returns : goal.returns
unfolding write_entry attribute_of le
returns c = c.put.ensures
