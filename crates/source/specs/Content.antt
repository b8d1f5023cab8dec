use Rattle.std.specs.Prelude.{ℕ, List, ◌++◌, take, drop}

-- The most bytes that a source can mean.
abbrev pub source_limit : ℕ
source_limit = 16777216

unfoldable pub clamped : List ℕ → List ℕ
clamped xs = take source_limit xs

-- What a source is made of. A fetch leaves it as it is, so what a source is taken apart to is as it was put in.
pub data Content : Type 0 where
  plain : List ℕ → Content
  pair : Content → Content → Content
  window : (start size : ℕ) → Content → Content

-- The bytes that it means.
abbrev pub meaning : Content → List ℕ
meaning (plain xs) = clamped xs
meaning (pair a b) = clamped (meaning a ++ meaning b)
meaning (window start size a) = take size (drop start (meaning a))
