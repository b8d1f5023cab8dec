-- What a set says of the keys that it holds, said of the bytes of these keys.
use Rattle.std.proofs.Common.{◌≡◌, ℕ, Bool, true, false, List, [], ◌∷◌, ◌++◌, map, length, position, ltb, Some, refl, inl, inr, arith}
use Rattle.std.specs.Str.{bytes_eq}
use Rattle.std.specs.List.{list_any, position_or_len}
use Rattle.std.specs.Cmp.Lexicographic.{nat_list_eq_equiv}
use Rattle.std.proofs.lemmas.Bool.{cases_Bool}
use Rattle.std.proofs.lemmas.List.{map_push}
use Rattle.indexmap.specs.IndexSet.{insert_key}
use Rattle.index.specs.Rows.{has, before, added}

module _ {K : Type 0} (bytes : K → List ℕ) (k : K) where
  abbrev same : K → Bool
  same x = bytes_eq (bytes k) (bytes x)

  has_bytes : (ks : List K) → has bytes_eq (map bytes ks) (bytes k) ≡ list_any same ks
  has_bytes [] = refl
  has_bytes (x ∷ ks) = rw (nat_list_eq_equiv.symm (bytes x) (bytes k), has_bytes ks)

  before_bytes : (ks : List K) → before bytes_eq (map bytes ks) (bytes k) ≡ position_or_len same ks
  before_bytes [] = refl
  before_bytes (x ∷ ks) = rw (nat_list_eq_equiv.symm (bytes x) (bytes k), before_bytes ks)

  -- A key that was found: adding its bytes changes nothing.
  pub found_bytes : (ks : List K) (i : ℕ) → true ≡ list_any same ks → Some i ≡ position same ks
      → (map bytes ks ≡ added bytes_eq false (map bytes ks) (bytes k)) × (i ≡ before bytes_eq (map bytes ks) (bytes k))
  found_bytes ks i t p = (rw (has_bytes ks, ← t), rw (before_bytes ks) at_place)
    where
      at_place : i ≡ position_or_len same ks
      at_place = elim (cases_Bool (ltb (position_or_len same ks) (length ks))) [
        | inl l ↦ grind (arith, l, p)
        | inr n ↦ grind (arith, n, p)
      ]

  -- A key behind the others is where a search among the others ends.
  last_place : (ks : List K) → position_or_len same (ks ++ k ∷ []) ≡ position_or_len same ks
  last_place [] = rw (nat_list_eq_equiv.refl (bytes k))
  last_place (x ∷ ks) = rw (last_place ks)

  -- Inserting a key adds its bytes, and where it then stands is the group of its bytes.
  pub inserted_bytes : (ks : List K) → map bytes (insert_key (λ x y. bytes_eq (bytes x) (bytes y)) ks k) ≡ added bytes_eq false (map bytes ks) (bytes k)
  inserted_bytes ks = elim (cases_Bool (list_any same ks)) [
    | inl t ↦ rw (has_bytes ks, t)
    | inr f ↦ rw (has_bytes ks, f) (map_push bytes ks k)
  ]

  pub inserted_place : (ks : List K) → position_or_len same ks ≡ before bytes_eq (map bytes (insert_key (λ x y. bytes_eq (bytes x) (bytes y)) ks k)) (bytes k)
  inserted_place ks = rw (before_bytes (insert_key (λ x y. bytes_eq (bytes x) (bytes y)) ks k)) (elim (cases_Bool (list_any same ks)) [ inl t ↦ rw t | inr f ↦ rw (f, last_place ks) ])
