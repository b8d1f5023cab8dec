-- Readings that can fail: nothing where what is read breaks a rule.
use Rattle.std.specs.Prelude.{ℕ, Bool, true, false, List, length, Some, None, Option, ◌==◌}
use Rattle.source.specs.Bytes.{val}
use Rattle.scan.specs.Texts.{also}

abbrev pub where_true : {A : Type 0} → Bool → A → Option A
where_true true a = Some a
where_true false a = None

abbrev pub then : {A B : Type 0} → Option A → (A → Option B) → Option B
then (Some a) f = f a
then None f = None

-- The bytes, where there are n of them.
unfoldable pub exactly : ℕ → List ℕ → Option (List ℕ)
exactly n xs = where_true (length xs == n) xs

-- The number that n bytes mean.
abbrev pub number : ℕ → List ℕ → Option ℕ
number n xs = also (exactly n xs) val
