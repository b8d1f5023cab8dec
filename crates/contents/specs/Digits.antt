-- Hexadecimal digits.
use Rattle.std.specs.Prelude.{ℕ, ◌+◌, ◌-◌, Bool, cond, ◌&&◌, List, [], ◌∷◌, is_some, Some, None, Option, ◌==◌, nat_le, nat_lt}
use Rattle.scan.specs.Texts.{also}
use Rattle.contents.specs.Options.{where_true, then}

-- '0' to '9', 'A' to 'F' or 'a' to 'f'.
abbrev pub digit : ℕ → Option ℕ
digit c =
    cond (nat_le 48 c && nat_le c 57) (Some (c - 48))
    (cond (nat_le 65 c && nat_le c 70) (Some (c - 55))
    (cond (nat_le 97 c && nat_le c 102) (Some (c - 87)) None))

-- '0' to '9' or 'A' to 'F'.
abbrev pub capital : ℕ → ℕ
capital n = cond (nat_lt n 10) (n + 48) (n + 55)

-- The digits of pairs, then a zero byte.
unfoldable pub digit_pairs : List ℕ → Option (List ℕ)
digit_pairs [] = None
digit_pairs (c ∷ []) = where_true (c == 0) []
digit_pairs (c ∷ (d ∷ rest)) = then (digit c) (λ m. then (digit d) (λ n. also (digit_pairs rest) (λ ns. m ∷ (n ∷ ns))))

abbrev pub are_pairs : List ℕ → Bool
are_pairs xs = is_some (digit_pairs xs)
