use Rattle.std.proofs.Common.{◌≡◌, ◌++◌, map, take, drop}
use Rattle.contents.specs.Writing.{upper}
use Rattle.contents.proofs.writing.capitalize.Given as goal

abbrev pub invariant-loop-byte : goal.invariant-loop-byte
invariant-loop-byte l = l.bytes ≡ map upper (take l.byte-index l.initial.bytes) ++ drop l.byte-index l.initial.bytes
