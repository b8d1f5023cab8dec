use Rattle.std.proofs.Common.{refl}
use Rattle.form.proofs.Framings.{mid_placed}
use Rattle.form.proofs.framing.put.Goals as goal

pub returns : goal.returns
returns c = rw c.copy_from_slice.ensures.after (mid_placed c.args.out.now c.args.here _ c.args.bytes.now refl)
