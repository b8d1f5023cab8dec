-- The pair that data mean, by the text before their zero byte, which is short.
use Rattle.std.proofs.Common.{◌≡◌, ℕ, ◌+◌, ◌-◌, ◌<◌, ◌≤◌, Bool, true, ◌&&◌, leb, List, [], ◌∷◌, ◌++◌, length, take, drop, Some, None, Ok, sym, refl, ap, ◌∙◌, arith}
use Rattle.std.proofs.lemmas.List.{length-append, take_at, take-take}
use Rattle.source.specs.Bytes.{part}
use Rattle.scan.specs.Scans.{asked}
use Rattle.scan.specs.Texts.{before_zero, is_text8}
use Rattle.scan.proofs.Numbers.{length_part}
use Rattle.scan.proofs.Parts.{asked_got, asked_within}
use Rattle.contents.specs.Classes.{Pair, pairs, means_pair, pair_from, pair_number, pair_of}
use Rattle.contents.specs.Options.{then}
use Rattle.contents.proofs.Normal.{zero_gives}
use Rattle.contents.proofs.Parts.{some_is, none_unless, then_some, same_length}

-- A test over the whole table: no spelling has more than 50 bytes.
abbrev short : List Pair → Bool
short [] = true
short (p ∷ ps) = leb (length p.0) 31 && leb (length p.1) 50 && short ps

means_short : (t : List ℕ) (p : Pair) → length p.0 ≤ 31 → length p.1 ≤ 50 → means_pair t p ≡ true → length t ≤ 50
means_short t p a b e = grind (arith, same_length, length-append)

pair_short : (t : List ℕ) (ps : List Pair) (n k : ℕ) → short ps ≡ true → pair_from t ps n ≡ Some k → length t ≤ 50
pair_short t [] n k s e = absurd cc
pair_short t (p ∷ ps) n k s e = grind (arith, means_short t p, pair_short t ps (n + 1) k)

pub long_data : (ys : List ℕ) → 51 < length ys → pair_of ys ≡ None
unfolding pair_number
long_data ys h =
    none_unless (pair_of ys) (λ k e.
    let (t, is, f) = then_some (before_zero ys) pair_number k e in
    omega (arith, pair_short t pairs 1 k refl f, ap length (zero_gives ys t is).1, length-append t (0 ∷ [])))

front_of : (xs : List ℕ) (place size : ℕ) (t : List ℕ) → size ≡ length t + 1 → part xs place size ≡ t ++ 0 ∷ [] → part xs place (size - 1) ≡ t
unfolding part
front_of xs place size t s e =
    let n : size - 1 ≡ length t = omega arith in
    sym (take-take (size - 1) size (drop place xs) (omega arith)) ∙ ap (take (size - 1)) e ∙ take_at t (0 ∷ []) (size - 1) (sym n)

module _ (xs : List ℕ) (place size : ℕ) (b : Bool) (got : Ok b ≡ asked is_text8 xs place size) (y : b ≡ true) where
  within : place + size ≤ length xs
  within = (asked_got is_text8 xs place size b got).0

  is_text : (t : List ℕ) × (before_zero (part xs place size) ≡ Some t) × (part xs place size ≡ t ++ 0 ∷ [])
  is_text =
      let (t, is) = some_is (before_zero (part xs place size)) (sym (asked_got is_text8 xs place size b got).1 ∙ y) in (t, is, (zero_gives (part xs place size) t is).1)

  sized : size ≡ length is_text.0 + 1
  sized = omega (arith, length_part xs place size within, ap length is_text.2, length-append is_text.0 (0 ∷ []))

  pub text_size : 1 ≤ size
  text_size = omega (arith, sized)

  pub class_read : (bytes : List ℕ) (m : ℕ) → m ≡ size - 1 → bytes ≡ take m (drop place xs) → Ok (pair_number bytes) ≡ asked pair_of xs place size
  unfolding part
  class_read bytes m s e =
      let (t, is, split) = is_text in
      let front : bytes ≡ t = e ∙ ap (λ k. take k (drop place xs)) s ∙ front_of xs place size t sized split in
      ap (λ l. Ok (pair_number l)) front ∙ ap (λ o. Ok (then o pair_number)) (sym is) ∙ sym (asked_within pair_of xs place size within)
