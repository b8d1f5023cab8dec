-- What stands before a frame's data, from its nine bytes.
use Rattle.std.proofs.Common.{◌≡◌, ℕ, ◌+◌, ◌*◌, ◌<◌, ◌≤◌, List, length, get_or, Ok, ◌∙◌, arith}
use Rattle.std.proofs.lemmas.List.{places}
use Rattle.std.proofs.lemmas.Bool.{le-leb, lt-leb}
use Rattle.source.specs.Bytes.{part, val}
use Rattle.source.specs.Outcome.{refused}
use Rattle.source.specs.declared.refusals.Reason.TheVariants.{StreamEnd}
use Rattle.scan.proofs.Numbers.{length_part, val_four}
use Rattle.frame.specs.Frames.{head_at}

-- A number that stands at k in a part of n bytes.
within_part : (xs : List ℕ) (p n k w j : ℕ) → k + w ≤ n → j < w → get_or (part xs p n) (k + j) 0 ≡ get_or (part xs (p + k) w) j 0
unfolding part
within_part xs p n k w j h l = grind (arith, places)

first_of_part : (xs : List ℕ) (p n : ℕ) → 0 < n → get_or (part xs p n) 0 0 ≡ get_or xs p 0
unfolding part
first_of_part xs p n h = grind (arith, places)

val_in_part : (xs : List ℕ) (p n k : ℕ) → k + 4 ≤ n → p + n ≤ length xs
    → get_or (part xs p n) (k + 0) 0 + get_or (part xs p n) (k + 1) 0 * 256 + get_or (part xs p n) (k + 2) 0 * 65536 + get_or (part xs p n) (k + 3) 0 * 16777216
    ≡ val (part xs (p + k) 4)
val_in_part xs p n k h l =
    let v = val_four (part xs (p + k) 4) (length_part xs (p + k) 4 (omega arith)) in
    omega (
      arith,
      v,
      within_part xs p n k 4 0 h (omega arith),
      within_part xs p n k 4 1 h (omega arith),
      within_part xs p n k 4 2 h (omega arith),
      within_part xs p n k 4 3 h (omega arith),
    )

module _ (xs : List ℕ) (p : ℕ) where
  pub head_short : length xs < p + 9 → refused StreamEnd p ≡ head_at xs p
  unfolding head_at
  head_short h = rw (lt-leb (p + 9) (length xs) h)

  pub head_got : (bs : List ℕ) (i n : ℕ) → p + 9 ≤ length xs → bs ≡ part xs p 9
      → i ≡ get_or bs 1 0 + get_or bs 2 0 * 256 + get_or bs 3 0 * 65536 + get_or bs 4 0 * 16777216
      → n ≡ get_or bs 5 0 + get_or bs 6 0 * 256 + get_or bs 7 0 * 65536 + get_or bs 8 0 * 16777216
      → Ok (record { level = get_or bs 0 0; id = i; size = n }) ≡ head_at xs p
  unfolding head_at
  head_got bs i n h e f g =
      let a : get_or bs 0 0 ≡ get_or xs p 0 = rw e (first_of_part xs p 9 (omega arith)) in
      let b : i ≡ val (part xs (p + 1) 4) = rw e at f ∙ val_in_part xs p 9 1 (omega arith) h in
      let d : n ≡ val (part xs (p + 5) 4) = rw e at g ∙ val_in_part xs p 9 5 (omega arith) h in
      rw (le-leb (p + 9) (length xs) h, ← a, ← b, ← d)
