use native.Mathlib.Nat.{sub-zero}
use Rattle.std.proofs.Common.{arith}
use Rattle.source.specs.Content.{meaning}
use Rattle.std.proofs.lemmas.List.{length-take, length-drop}
use Rattle.pen.proofs.Pens.{◌▷◌}
use Rattle.amend.specs.Cuts.{cut_form}
use Rattle.amend.proofs.Cutting.{rest_is, take_fits, drop_fits}
use Rattle.amend.proofs.cuts.write_cut.Goals as goal

pub write_rows_from-front-requires : goal.write_rows_from-front-requires
write_rows_from-front-requires g c =
    rw sub-zero (
      omega arith,
      (
        take_fits (meaning (g.S.Source.content c.args.source.now)) c.args.cut.now.front c.args.rows.now c.requires.own,
        omega (arith, c.requires.few, length-take c.args.cut.now.front c.args.rows.now),
      ),
    )

pub write_rows_from-requires : goal.write_rows_from-requires
write_rows_from-requires g c =
    let small = rw sub-zero at c.write_rows_from-front.ensures.small in
    rw (c.write_rows_from-front.ensures.same, rest_is c.args.rows.now c.args.cut.now.back) (
      omega (arith, c.len-total.ensures.value, c.len-total.ensures.bound),
      (
        drop_fits (meaning (g.S.Source.content c.args.source.now)) c.args.cut.now.back c.args.rows.now c.requires.own,
        omega (arith, c.requires.few, small, c.write_put-put.ensures.small, length-take c.args.cut.now.front c.args.rows.now, length-drop c.args.cut.now.back c.args.rows.now),
      ),
    )

pub returns-clause-value : goal.returns-clause-value
unfolding cut_form
returns-clause-value g c =
    let b = c.write_rows_from-front.ensures in
    let p = c.write_put-put.ensures in
    let d = c.write_rows_from.ensures in
    let first = rw sub-zero at b.value in
    let put = rw (b.next, sub-zero) at p.value in
    let last = rw (rest_is c.args.rows.now c.args.cut.now.back, b.same, p.next, b.next, sub-zero) at d.value in
    rw (← c.cut_count.ensures) (c.put_le.ensures ▷ (first ▷ (put ▷ last)))
