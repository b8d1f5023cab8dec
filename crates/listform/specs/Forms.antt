-- What is written for rows, said by the bytes xs and the places in them alone.
use Rattle.std.specs.Prelude.{ℕ, ◌+◌, ◌≤◌, Bool, true, false, List, [], ◌∷◌, ◌++◌, length, Some, None, Option}
use Rattle.source.specs.Bytes.{part, val, le}
use Rattle.index.specs.Keys.{key_of}
use Rattle.index.specs.declared.properties.PropertyRow.{PropertyRow}
use Rattle.property.specs.declared.kinds.Kind.{Kind}
use Rattle.property.specs.declared.kinds.Shape.{Shape}
use Rattle.property.specs.Fields.{padded, filled}
use Rattle.property.specs.Kinds.{value, normal, width, shape_of}
use Rattle.property.specs.Writing.{write_key, after_key}
use Rattle.listform.specs.Walks.{walked, Within}

-- The number of the next name behind rows.
abbrev pub number_behind : ℕ → List PropertyRow → ℕ
number_behind number [] = number
number_behind number (r ∷ rs) = number_behind (after_key (key_of r.key) number) rs

-- The place behind a value of a width and its padding.
abbrev pub fixed_next : ℕ → ℕ → ℕ
fixed_next w p = p + padded w

module _ (xs : List ℕ) where
  unfoldable pub number_there : ℕ → ℕ
  number_there p = val (part xs p 4)

  -- One value of a width.
  unfoldable pub fixed_form : Kind → ℕ → ℕ → List ℕ
  fixed_form k w p = filled (normal (value k (part xs p w)))

  -- One value behind its size, and the place behind its padding.
  unfoldable pub sized_form : ℕ → List ℕ
  sized_form p = le 4 (number_there p) ++ filled (part xs (p + 4) (number_there p))

  abbrev pub sized_next : ℕ → ℕ
  sized_next p = p + 4 + padded (number_there p)

  unfoldable pub values_form : Option ℕ → Kind → Bool → ℕ → List ℕ
  values_form (Some w) k true p = le 4 (number_there p) ++ walked (fixed_form k w) (fixed_next w) (number_there p) (p + 4)
  values_form (Some w) k false p = walked (fixed_form k w) (fixed_next w) 1 p
  values_form None k several p = le 4 (number_there p) ++ walked sized_form sized_next (number_there p) (p + 4)

  -- All of the values lie within the bytes.
  unfoldable pub ValuesFit : Option ℕ → Bool → ℕ → Type 0
  ValuesFit (Some w) true p = (p + 4 ≤ length xs) × Within (length xs) (fixed_next w) (number_there p) (p + 4)
  ValuesFit (Some w) false p = Within (length xs) (fixed_next w) 1 p
  ValuesFit None several p = (p + 4 ≤ length xs) × Within (length xs) sized_next (number_there p) (p + 4)

  abbrev pub shaped_form : Option Shape → ℕ → List ℕ
  shaped_form None p = []
  shaped_form (Some s) p = values_form (width s.kind) s.kind s.several p

  abbrev pub ShapedFit : Option Shape → ℕ → Type 0
  ShapedFit None p = ⊥
  ShapedFit (Some s) p = ValuesFit (width s.kind) s.several p

  unfoldable pub row_form : ℕ → PropertyRow → List ℕ
  row_form number r = le 2 r.number ++ (write_key number (key_of r.key) ++ shaped_form (shape_of r.number) r.values)

  abbrev pub RowFits : PropertyRow → Type 0
  RowFits r = ShapedFit (shape_of r.number) r.values

  abbrev pub rows_form : ℕ → List PropertyRow → List ℕ
  rows_form number [] = []
  rows_form number (r ∷ rs) = row_form number r ++ rows_form (after_key (key_of r.key) number) rs

  abbrev pub RowsFit : List PropertyRow → Type 0
  RowsFit [] = Unit {0}
  RowsFit (r ∷ rs) = RowFits r × RowsFit rs
