use Rattle.std.proofs.Common.{take}
use Rattle.source.specs.Bytes.{Octets}
use Rattle.source.proofs.slices.octets.Given as goal

abbrev pub invariant-loop-byte : goal.invariant-loop-byte
invariant-loop-byte l = Octets (take l.byte-index l.bytes)
