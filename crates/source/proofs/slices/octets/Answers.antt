use Rattle.std.proofs.Common.{◌<◌, ◌≤◌, length, arith}
use Rattle.std.proofs.lemmas.List.{take_all}
use Rattle.std.proofs.ByRecursion.{All-more}
use Rattle.source.proofs.slices.octets.Goals as goal

pub loop-byte-preserved : goal.loop-byte-preserved
loop-byte-preserved c = All-more (λ x. x < 256) c.args.bytes.now c.loop-byte.byte-index 0 (omega arith) c.loop-byte.invariant (omega arith)

pub returns : goal.returns
returns c = let h : length c.args.bytes.now ≤ c.loop-byte.byte-index = omega arith in rw take_all at c.loop-byte.invariant
