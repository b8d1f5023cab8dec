-- Little-endian numbers.
use Rattle.std.proofs.Common.{◌≡◌, ℕ, zero, suc, ◌+◌, ◌*◌, ◌/◌, ◌%◌, ◌^◌, ◌<◌, ◌≤◌, List, [], ◌∷◌, length, get_or, refl, ap, arith}
use Rattle.std.proofs.lemmas.Nat.{div_below}
use Rattle.std.proofs.lemmas.List.{length-take, length-drop}
use Rattle.source.specs.Bytes.{part, val, le}

pub length_part : (xs : List ℕ) (p n : ℕ) → p + n ≤ length xs → length (part xs p n) ≡ n
unfolding part
length_part xs p n h = simp (length-take, length-drop) (omega arith)

pub val_two : (bs : List ℕ) → length bs ≡ 2 → val bs ≡ get_or bs 0 0 + get_or bs 1 0 * 256
unfolding val
val_two [] h = absurd (omega arith)
val_two (a ∷ []) h = absurd (omega arith)
val_two (a ∷ (b ∷ [])) h = omega arith
val_two (a ∷ (b ∷ (c ∷ bs))) h = absurd (omega arith)

pub val_four : (bs : List ℕ) → length bs ≡ 4 → val bs ≡ get_or bs 0 0 + get_or bs 1 0 * 256 + get_or bs 2 0 * 65536 + get_or bs 3 0 * 16777216
unfolding val
val_four [] h = absurd (omega arith)
val_four (a ∷ []) h = absurd (omega arith)
val_four (a ∷ (b ∷ [])) h = absurd (omega arith)
val_four (a ∷ (b ∷ (c ∷ []))) h = absurd (omega arith)
val_four (a ∷ (b ∷ (c ∷ (d ∷ [])))) h = omega arith
val_four (a ∷ (b ∷ (c ∷ (d ∷ (e ∷ bs))))) h = absurd (omega arith)

pub le_two : (n : ℕ) → le 2 n ≡ n % 256 ∷ n / 256 % 256 ∷ []
unfolding le
le_two n = refl

pub le_four : (n : ℕ) → le 4 n ≡ n % 256 ∷ n / 256 % 256 ∷ n / 65536 % 256 ∷ n / 16777216 % 256 ∷ []
unfolding le
le_four n =
    let a : n / 256 / 256 ≡ n / 65536 = omega arith in
    let b : n / 256 / 256 / 256 ≡ n / 16777216 = omega arith in
    rw (b, a)

pub length_le : (w n : ℕ) → length (le w n) ≡ w
unfolding le
length_le zero n = refl
length_le (suc w) n = ap suc (length_le w (n / 256))

pub val_le : (w n : ℕ) → n < 256 ^ w → val (le w n) ≡ n
unfolding le val
val_le zero n h = omega arith
val_le (suc w) n h = omega (arith, val_le w (n / 256) (div_below n 256 (256 ^ w) (omega arith) (omega arith)))
