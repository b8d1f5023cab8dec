-- Lists of bytes: parts of them, and the numbers that they mean.
use Rattle.std.specs.Prelude.{ℕ, zero, suc, ◌+◌, ◌*◌, ◌/◌, ◌%◌, ◌<◌, Bool, true, false, ◌&&◌, List, [], ◌∷◌, take, drop, ◌==◌}
use Rattle.std.specs.List.{AllByRecursion}

-- Numbers that are bytes.
abbrev pub Octets : List ℕ → Type 0
Octets xs = AllByRecursion (λ x. x < 256) xs

-- The n bytes of xs from place p on.
unfoldable pub part : List ℕ → ℕ → ℕ → List ℕ
part xs p n = take n (drop p xs)

-- The number that bytes mean, the lowest first.
unfoldable pub val : List ℕ → ℕ
val [] = 0
val (b ∷ bs) = b + 256 * val bs

-- A number as w bytes, the lowest first.
unfoldable pub le : ℕ → ℕ → List ℕ
le zero n = []
le (suc w) n = n % 256 ∷ le w (n / 256)

abbrev pub same_bytes : List ℕ → List ℕ → Bool
same_bytes [] [] = true
same_bytes [] (y ∷ ys) = false
same_bytes (x ∷ xs) [] = false
same_bytes (x ∷ xs) (y ∷ ys) = x == y && same_bytes xs ys
