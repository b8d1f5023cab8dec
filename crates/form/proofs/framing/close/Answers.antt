use Rattle.std.proofs.Common.{◌+◌, ◌-◌, sym, ap, ◌∙◌, arith}
use Rattle.source.specs.Bytes.{part, le}
use Rattle.scan.proofs.Numbers.{length_part}
use Rattle.scan.proofs.Numbers.{le_two}
use Rattle.form.proofs.Framings.{length_framed, closed}
use Rattle.form.proofs.framing.close.Goals as goal

pub returns-then-out-end-lt-CHECKSUM_SIZE : goal.returns-then-out-end-lt-CHECKSUM_SIZE
returns-then-out-end-lt-CHECKSUM_SIZE c =
    omega (
      arith,
      length_framed c.args.level c.args.id (part c.args.out.now (c.args.start + 9) (c.args.end - (c.args.start + 9))),
      length_part c.args.out.now (c.args.start + 9) (c.args.end - (c.args.start + 9)) (omega arith),
    )

pub returns : goal.returns
unfolding part
returns c =
    closed c.args.out.now c.put.new.out c.put-2.new.out c.args.start c.args.end c.args.level c.args.id c.head.result c.to_le_bytes.result
    (omega arith) (omega arith) c.head.ensures (c.to_le_bytes.ensures ∙ sym (le_two _) ∙ ap (le 2) c.summed-sum.ensures) c.put.ensures c.put-2.ensures
