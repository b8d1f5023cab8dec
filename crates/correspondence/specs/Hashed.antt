-- What is hashed of a form. No public contract cites it.
use Rattle.std.specs.Prelude.{ℕ, List, [], ◌∷◌, ◌++◌, length, min, take}
use Rattle.std.specs.Hash.{usize}

-- Its length, and its first bytes in one piece.
abbrev pub hashed : List ℕ → List (List ℕ)
hashed form = usize (length form) ++ take (min (length form) 65536) form ∷ []
