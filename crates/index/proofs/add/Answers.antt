use Rattle.std.proofs.Common.{arith}
use native.Mathlib.Nat.{sub-zero}
use Rattle.index.proofs.Positions.{take_min, added_gives_way}
use Rattle.index.proofs.add.Goals as goal

pub returns-then-takes_later : goal.returns-then-takes_later
returns-then-takes_later g c =
    added_gives_way g.R.Row.same g.R.Row.later c.args.row c.args.rows.now c.args.used c.min-n.result (omega arith) (take_min g.R.Row.same _ _ _ c.min-n.ensures)
    c.in-Some.i (rw sub-zero at c.in-Some.ensures) c.if-takes_later.ensures
