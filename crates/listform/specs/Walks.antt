-- Walks over places, each behind the one before.
use Rattle.std.specs.Prelude.{ℕ, zero, suc, ◌≤◌, List, [], ◌++◌}

-- What is written at n places one after another.
unfoldable pub walked : (ℕ → List ℕ) → (ℕ → ℕ) → ℕ → ℕ → List ℕ
walked one next zero p = []
walked one next (suc n) p = one p ++ walked one next n (next p)

-- The n places behind p stay within what ends at `last`.
unfoldable pub Within : ℕ → (ℕ → ℕ) → ℕ → ℕ → Type 0
Within last next zero p = Unit {0}
Within last next (suc n) p = (next p ≤ last) × Within last next n (next p)
