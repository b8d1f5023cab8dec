use Rattle.std.specs.Prelude.{ℕ, ◌+◌, ◌%◌, cond, List, length, Ok, sum, nat_le}
use Rattle.source.specs.Bytes.{part}
use Rattle.source.specs.Outcome.{Outcome, refused}
use Rattle.source.specs.declared.refusals.Reason.TheVariants.{SourceEnd}

-- What f says of the `size` bytes of xs from `place` on, where there are so many.
unfoldable pub asked : {A : Type 0} → (List ℕ → A) → List ℕ → ℕ → ℕ → Outcome A
asked f xs place size = cond (nat_le (place + size) (length xs)) (Ok (f (part xs place size))) (refused SourceEnd 0)

-- The sum of bytes, modulo 65,536.
abbrev pub checksum : List ℕ → ℕ
checksum xs = sum xs % 65536
