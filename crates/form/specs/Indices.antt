-- Rows of an index, and the list they carry.
use Rattle.std.specs.Prelude.{ℕ, ◌≤◌, List, length}
use Rattle.index.specs.declared.properties.PropertyRow.{PropertyRow}
use Rattle.property.specs.Indexing.{Carried}
use Rattle.property.specs.Lists.{Property, list_limit, indexed}

-- Rows that carry the index of a list that was read in xs.
pub record ListIndexed (xs : List ℕ) (rows : List PropertyRow) (ps : List Property) : Type 0 where
  pub end : ℕ
  pub within : end ≤ length xs
  pub carried : Carried xs end rows (indexed ps)
  pub few : length rows ≤ list_limit
