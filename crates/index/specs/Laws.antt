-- What an index keeps, said of all rows that came and of the rows that it then has.
use Rattle.std.specs.Prelude.{◌≡◌, ◌<◌, Bool, false, cond, List, [], ◌∷◌, reverse, Some, None, Option}
use Rattle.std.specs.List.{AllByRecursion}
use Rattle.index.specs.Rows.{has, before, indexed}

-- The first row that has the key of r.
abbrev pub found : {R : Type 0} → (R → R → Bool) → List R → R → Option R
found same [] r = None
found same (x ∷ xs) r = cond (same x r) (Some x) (found same xs r)

-- The one that stands among all that came: the first of its key, or the last.
abbrev pub standing : {R : Type 0} → (R → R → Bool) → Bool → List R → R → Option R
standing same later came r = cond later (found same (reverse came) r) (found same came r)

-- No two rows have one key.
abbrev pub Apart : {R : Type 0} → (R → R → Bool) → List R → Type 0
Apart same [] = Unit {0}
Apart same (x ∷ xs) = (has same xs x ≡ false) × Apart same xs

-- A row's key first came before the keys of the rows behind it.
abbrev pub InOrder : {R : Type 0} → (R → R → Bool) → List R → List R → Type 0
InOrder same came [] = Unit {0}
InOrder same came (x ∷ xs) = AllByRecursion (λ y. before same came x < before same came y) xs × InOrder same came xs

pub record Kept {R : Type 0} (same : R → R → Bool) (later : Bool) (came rows : List R) : Type 0 where
  pub keys : (r : R) → has same rows r ≡ has same came r
  pub apart : Apart same rows
  pub order : InOrder same came rows
  pub stands : (r : R) → found same rows r ≡ standing same later came r

abbrev pub Lawful : {R : Type 0} → (R → R → Bool) → Bool → Type 0
Lawful {R} same later = (came : List R) → Kept same later came (indexed same later came)
