-- Text: one zero, its last.
use Rattle.std.specs.Prelude.{ℕ, Bool, false, cond, not, ◌&&◌, List, [], ◌∷◌, is_some, Some, None, Option, ◌==◌}

abbrev pub also : {A B : Type 0} → Option A → (A → B) → Option B
also (Some a) f = Some (f a)
also None f = None

abbrev pub nothing_more : List ℕ → Option (List ℕ)
nothing_more [] = Some []
nothing_more (x ∷ xs) = None

-- The bytes before the one zero byte, which is the last; nothing where they are not text.
unfoldable pub before_zero : List ℕ → Option (List ℕ)
before_zero [] = None
before_zero (x ∷ xs) = cond (x == 0) (nothing_more xs) (also (before_zero xs) (λ ys. x ∷ ys))

abbrev pub is_text8 : List ℕ → Bool
is_text8 xs = is_some (before_zero xs)

-- Of units of two bytes: one zero unit, the last.
unfoldable pub is_text16 : List ℕ → Bool
is_text16 [] = false
is_text16 (a ∷ []) = false
is_text16 (a ∷ (b ∷ [])) = a == 0 && b == 0
is_text16 (a ∷ (b ∷ (c ∷ rest))) = not (a == 0 && b == 0) && is_text16 (c ∷ rest)
