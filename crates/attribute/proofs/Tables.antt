-- The rules of a table of attributes, from tests over the whole of it.
use Rattle.std.proofs.Common.{◌≡◌, ℕ, zero, suc, ◌<◌, true, false, ◌||◌, eqb, ◌⊎◌, List, [], ◌∷◌, length, get_or, Some, sym, refl, arith}
use Rattle.std.proofs.lemmas.Bool.{eq-eqb, ltb-true, and_parts, or_parts, both_ways}
use Rattle.std.proofs.lemmas.Bool.Decides.{nat_tests}
use Rattle.attribute.specs.declared.Attribute.{Attribute}
use Rattle.attribute.specs.Table.{find, has_id, ids_apart, ids_above, levels_right, attributes, attribute_of, message_attributes, attachment_attributes, Sound}

module _ (d : Attribute) where
  has_get_d : (table : List Attribute) (k : ℕ) → k < length table → has_id (get_or table k d).id table ≡ false → ⊥
  has_get_d [] k h n = omega arith
  has_get_d (a ∷ rest) zero h n = both_ways (eqb a.id a.id) (or_parts _ _ n).0 (eq-eqb a.id a.id refl)
  has_get_d (a ∷ rest) (suc k) h n = has_get_d rest k (omega arith) (or_parts _ _ n).1

  -- the first of a table whose ids are apart has none of the others' ids
  other_id : (a : Attribute) (rest : List Attribute) (k : ℕ) → ids_apart (a ∷ rest) ≡ true → k < length rest → a.id ≡ (get_or rest k d).id → ⊥
  other_id a rest k s h e = grind (arith, has_get_d rest k)

  pub apart : (table : List Attribute) (i j : ℕ) → ids_apart table ≡ true → i < length table → j < length table
      → (get_or table i d).id ≡ (get_or table j d).id → i ≡ j
  apart [] i j s h k e = absurd (omega arith)
  apart (a ∷ rest) zero zero s h k e = refl
  apart (a ∷ rest) zero (suc j) s h k e = absurd (other_id a rest j s (omega arith) e)
  apart (a ∷ rest) (suc i) zero s h k e = absurd (other_id a rest i s (omega arith) (sym e))
  apart (a ∷ rest) (suc i) (suc j) s h k e = grind (arith, apart rest i j)

  pub found : (table : List Attribute) (i : ℕ) → ids_apart table ≡ true → i < length table → find table (get_or table i d).id ≡ Some (get_or table i d)
  found [] i s h = absurd (omega arith)
  found (a ∷ rest) zero s h = rw (eq-eqb a.id a.id refl)
  found (a ∷ rest) (suc i) s h = grind (arith, nat_tests, found rest i, other_id a rest i)

  level_one : (l : ℕ) → (eqb l 1 || eqb l 2) ≡ true → (l ≡ 1) ⊎ (l ≡ 2)
  level_one l e = grind (arith, nat_tests)

  pub levels : (table : List Attribute) (i : ℕ) → levels_right table ≡ true → i < length table → ((get_or table i d).level ≡ 1) ⊎ ((get_or table i d).level ≡ 2)
  levels [] i s h = absurd (omega arith)
  levels (a ∷ rest) zero s h = level_one a.level (and_parts _ _ s).0
  levels (a ∷ rest) (suc i) s h = levels rest i (and_parts _ _ s).1 (omega arith)

  above : (low : ℕ) (table : List Attribute) (j : ℕ) → ids_above low table ≡ true → j < length table → low < (get_or table j d).id
  above low [] j s h = absurd (omega arith)
  above low (a ∷ rest) zero s h = ltb-true low a.id (and_parts _ _ s).0
  above low (a ∷ rest) (suc j) s h = grind (arith, nat_tests, above a.id rest j)

  pub rises : (low : ℕ) (table : List Attribute) (i j : ℕ) → ids_above low table ≡ true → i < j → j < length table → (get_or table i d).id < (get_or table j d).id
  rises low [] i j s l h = absurd (omega arith)
  rises low (a ∷ rest) i zero s l h = absurd (omega arith)
  rises low (a ∷ rest) zero (suc j) s l h = above a.id rest j (and_parts _ _ s).1 (omega arith)
  rises low (a ∷ rest) (suc i) (suc j) s l h = rises a.id rest i j (and_parts _ _ s).1 (omega arith) (omega arith)

pub sound : Sound
unfolding attribute_of
sound = record {
  apart = λ i j d h k e. apart d attributes i j refl h k e;
  found = λ i d h. found d attributes i refl h;
  levels = λ i d h. levels d attributes i refl h;
  message_rises = λ i j d l h. rises d 0 message_attributes i j refl l h;
  attachment_rises = λ i j d l h. rises d 0 attachment_attributes i j refl l h;
}
