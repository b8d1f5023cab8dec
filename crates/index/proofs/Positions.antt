-- The first row with a key, and what adding a row does to a slice.
use Rattle.std.proofs.Common.{◌≡◌, ℕ, suc, ◌+◌, ◌<◌, ◌≤◌, min, Bool, true, false, cond, not, ◌||◌, ltb, List, [], ◌∷◌, length, take, set, Some, None, refl, ◌∙◌, ⊎_elim, arith, rules}
use Rattle.std.specs.List.{position as first_place}
use Rattle.std.proofs.lemmas.List.{places, same_lists, take_more_set, drop-set-lt, length-set, length-take-le, get_or-set_same, take_all}
use Rattle.std.proofs.lemmas.Bool.{cases_eq, both_ways}
use Rattle.std.proofs.lemmas.Bool.Decides.{nat_tests}
use Rattle.index.specs.Rows.{has, before, position, replaced, Added}

has_step : (b c : Bool) (l n : ℕ) → ltb l n ≡ c → ltb (cond (not b) (1 + l) 0) (suc n) ≡ (b || c)
has_step true c l n e = grind (arith, nat_tests)
has_step false c l n e = let s : ltb (1 + l) (suc n) ≡ ltb l n = grind (arith, nat_tests) in s ∙ e

module _ {R : Type 0} (same : R → R → Bool) where
  -- A row has the key just if not all rows come before the first that has it.
  pub has_before : (rows : List R) (r : R) → ltb (before same rows r) (length rows) ≡ has same rows r
  has_before [] r = refl
  has_before (x ∷ xs) r = has_step (same x r) (has same xs r) (before same xs r) (length xs) (has_before xs r)

  -- The library's search for the first that passes a test.
  pub position_is : (rows : List R) (r : R) → first_place (λ x. same x r) rows ≡ position same rows r
  position_is rows r = rw (has_before rows r) refl

  pub position_some : (rows : List R) (r : R) (i : ℕ) → Some i ≡ position same rows r → (has same rows r ≡ true) × (i ≡ before same rows r)
  position_some rows r i e = grind arith

  pub position_nowhere : (rows : List R) (r : R) → None ≡ position same rows r → has same rows r ≡ false
  position_nowhere rows r e = grind arith

  pub position_below : (rows : List R) (r : R) (i : ℕ) → Some i ≡ position same rows r → i < length rows
  position_below rows r i e = grind (arith, nat_tests, has_before rows r)

  set_before : (rows : List R) (r : R) → has same rows r ≡ true → set rows (before same rows r) r ≡ replaced same rows r
  set_before [] r h = absurd (both_ways false refl h)
  set_before (x ∷ xs) r h = grind (arith, set_before xs r)

  take_set_below : (n i : ℕ) (xs : List R) (x : R) → i < n → n ≤ length xs → take n (set xs i x) ≡ set (take n xs) i x
  take_set_below n i xs x h l =
      same_lists _ _ (search (rules, places)) (λ k d m. ⊎_elim (λ e. grind (arith, places, get_or-set_same)) (λ e. grind (arith, places)) (cases_eq k i))

  pub take_min : (used n : ℕ) (rows : List R) → n ≡ min used (length rows) → take n rows ≡ take used rows
  take_min used n rows e = grind (arith, take_all)

  -- What adding does where the key is new and there is room or none, where an earlier row stays, and where it gives way.
  module _ (later : Bool) (row : R) (start : List R) (used n : ℕ) (h : n ≤ length start) (e : take n start ≡ take used start) where
    pub added_new : None ≡ position same (take n start) row → n < length start → Added same later used row start (set start n row) (Some (n + 1))
    added_new p l =
        let f = position_nowhere (take n start) row p in
        (simp length-set (omega arith), rw (← e, f) (take_more_set start n row l), drop-set-lt (n + 1) start n row (omega arith))

    pub added_none : None ≡ position same (take n start) row → length start ≤ used → Added same later used row start start None
    added_none p l = (l, rw (← e) (position_nowhere (take n start) row p), refl)

    pub added_stays : (i : ℕ) → Some i ≡ position same (take n start) row → false ≡ later → Added same later used row start start (Some n)
    added_stays i p t = let f = (position_some (take n start) row i p).0 in (h, rw (← t, ← e, f), refl)

    pub added_gives_way : (i : ℕ) → Some i ≡ position same (take n start) row → true ≡ later → Added same later used row start (set start i row) (Some n)
    added_gives_way i p t =
        let (f, q) = position_some (take n start) row i p in
        let l = position_below (take n start) row i p in
        let m : length (take n start) ≡ n = length-take-le n start h in
        let k : i < n = omega arith in
        (simp length-set h, rw (← t, ← e, f) (take_set_below n i start row k h ∙ rw q (set_before (take n start) row f)), drop-set-lt n start i row k)
