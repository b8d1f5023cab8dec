use Rattle.std.specs.Prelude.{◌≡◌, ℕ, ◌≤◌, Bool, false, cond, not, ◌||◌, List, [], ◌∷◌, ◌++◌, length, take, drop, Some, None, fold, Option}
use Rattle.std.specs.List.{prefix_len}

-- Whether a row has the key of r.
abbrev pub has : {R : Type 0} → (R → R → Bool) → List R → R → Bool
has same [] r = false
has same (x ∷ xs) r = same x r || has same xs r

-- How many rows come before the first that has it.
abbrev pub before : {R : Type 0} → (R → R → Bool) → List R → R → ℕ
before same rows r = prefix_len (λ x. not (same x r)) rows

abbrev pub position : {R : Type 0} → (R → R → Bool) → List R → R → Option ℕ
position same rows r = cond (has same rows r) (Some (before same rows r)) None

-- The rows with r in the place of the first that has its key.
abbrev pub replaced : {R : Type 0} → (R → R → Bool) → List R → R → List R
replaced same [] r = []
replaced same (x ∷ xs) r = cond (same x r) (r ∷ xs) (x ∷ replaced same xs r)

-- The rows after one is added: a new key goes to the end; of equal keys the earlier stays, or gives its place to the later.
abbrev pub added : {R : Type 0} → (R → R → Bool) → Bool → List R → R → List R
added same later rows r = cond (has same rows r) (cond later (replaced same rows r) rows) (rows ++ r ∷ [])

-- The index of rows that come one after another.
abbrev pub indexed : {R : Type 0} → (R → R → Bool) → Bool → List R → List R
indexed same later rows = fold (added same later) [] rows

-- What adding a row to the first `used` rows of a slice does to it, and answers: how many rows it has then, or nothing
-- where the key is new and the slice is full.
abbrev pub Added : {R : Type 0} → (R → R → Bool) → Bool → ℕ → R → List R → List R → Option ℕ → Type 0
Added same later used row start after None =
    (length start ≤ used) × (has same (take used start) row ≡ false) × (after ≡ start)
Added same later used row start after (Some n) =
    (n ≤ length after) × (take n after ≡ added same later (take used start) row) × (drop n after ≡ drop n start)
