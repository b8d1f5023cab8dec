-- Little-endian numbers and parts of bytes.
use Rattle.std.proofs.Common.{◌≡◌, ℕ, ◌+◌, ◌*◌, ◌/◌, ◌%◌, ◌^◌, ◌<◌, ◌≤◌, List, [], ◌∷◌, ◌++◌, length, drop, sym, refl, ap, ◌∙◌, pow-suc, arith, rules}
use Rattle.std.proofs.lemmas.List.{places, same_lists, take_all}
use Rattle.std.proofs.ByRecursion.{All-take, All-drop}
use Rattle.source.specs.Bytes.{Octets, le, val, part}
use Rattle.scan.proofs.Numbers.{length_part}

pub val_lt : (xs : List ℕ) → Octets xs → val xs < 256 ^ length xs
unfolding val
val_lt [] h = omega arith
val_lt (x ∷ xs) h = omega (arith, val_lt xs h.1, pow-suc 256 (length xs))

pub octets_part : (xs : List ℕ) (p n : ℕ) → Octets xs → Octets (part xs p n)
unfolding part
octets_part xs p n h = All-take _ n (drop p xs) (All-drop _ p xs h)

pub val_part : (xs : List ℕ) (p n : ℕ) → Octets xs → p + n ≤ length xs → val (part xs p n) < 256 ^ n
val_part xs p n o h = rw (length_part xs p n h) at (val_lt (part xs p n) (octets_part xs p n o))

pub le_val : (xs : List ℕ) → Octets xs → le (length xs) (val xs) ≡ xs
unfolding le val
le_val [] h = refl
le_val (x ∷ xs) h =
    let a : (x + 256 * val xs) % 256 ≡ x = omega (arith, h.0) in
    let b : (x + 256 * val xs) / 256 ≡ val xs = omega (arith, h.0) in
    rw (a, b, le_val xs h.1)

pub le_part : (xs : List ℕ) (p n : ℕ) → Octets xs → p + n ≤ length xs → le n (val (part xs p n)) ≡ part xs p n
le_part xs p n o h = ap (λ m. le m (val (part xs p n))) (sym (length_part xs p n h)) ∙ le_val (part xs p n) (octets_part xs p n o)

pub part_join : (xs : List ℕ) (p n : ℕ) → part xs 0 p ++ part xs p n ≡ part xs 0 (p + n)
unfolding part
part_join xs p n = same_lists _ _ (search (rules, places)) (λ k d l. grind (arith, places))

pub part_all : (xs : List ℕ) (n : ℕ) → length xs ≡ n → part xs 0 n ≡ xs
unfolding part
part_all xs n h = take_all n xs (omega arith)
