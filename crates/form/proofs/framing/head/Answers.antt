use Rattle.scan.proofs.Numbers.{le_four}
use Rattle.form.proofs.framing.head.Goals as goal

pub returns : goal.returns
returns c = rw (le_four c.args.id, le_four c.args.size, c.to_le_bytes.ensures, c.to_le_bytes-2.ensures)
