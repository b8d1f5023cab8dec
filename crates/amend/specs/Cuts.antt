-- Rows of which one is replaced, added or left out, and what is written of them.
use Rattle.std.specs.Prelude.{ℕ, ◌+◌, ◌-◌, ◌<◌, ◌≤◌, List, [], ◌∷◌, ◌++◌, length, take, drop, Some, None, Option}
use Rattle.source.specs.Bytes.{le}
use Rattle.index.specs.Rows.{position}
use Rattle.index.specs.declared.keys.PropertyKey.{PropertyKey}
use Rattle.index.specs.declared.properties.PropertyRow.{PropertyRow}
use Rattle.property.specs.Indexing.{same_row}
use Rattle.property.specs.Lists.{list_limit}
use Rattle.property.specs.Names.{first_named}
use Rattle.listform.specs.Forms.{rows_form, number_behind, RowsFit}
use Rattle.amend.specs.declared.changes.Listing.{Listing}
use Rattle.amend.specs.declared.changes.Listing.TheVariants.{Same, With, Less}
use Rattle.amend.specs.declared.cuts.Cut.{Cut}

abbrev pub put_rows : Option PropertyRow → List PropertyRow
put_rows None = []
put_rows (Some r) = r ∷ []

abbrev pub probe : PropertyKey → PropertyRow
probe key = record { key = key; number = 0; values = 0; next = 0 }

-- What is put stands in the place that was found, or behind all rows.
abbrev pub cut_at : ℕ → Option PropertyRow → Option ℕ → Cut
cut_at n put (Some i) = record { front = i; put = put; back = i + 1 }
cut_at n put None = record { front = n; put = put; back = n }

unfoldable pub cut_of : List PropertyRow → Listing → Cut
cut_of rows Same = cut_at (length rows) None None
cut_of rows (With row) = cut_at (length rows) (Some row) (position same_row rows row)
cut_of rows (Less key) = cut_at (length rows) None (position same_row rows (probe key))

abbrev pub Below : ℕ → Option ℕ → Type 0
Below n None = Unit {0}
Below n (Some i) = i < n

unfoldable pub cut_count : ℕ → Cut → ℕ
cut_count n c = c.front + length (put_rows c.put) + (n - c.back)

-- The rows are those of a list, and all values lie within their bytes: xs, or ys for what is put.
pub record CutFits (xs ys : List ℕ) (rows : List PropertyRow) (c : Cut) : Type 0 where
  pub front : c.front ≤ length rows
  pub back : c.back ≤ length rows
  pub few : length rows ≤ list_limit
  pub own : RowsFit xs rows
  pub put : RowsFit ys (put_rows c.put)

-- The count, and all rows with the names numbered as they come.
unfoldable pub cut_form : List ℕ → List ℕ → List PropertyRow → Cut → List ℕ
cut_form xs ys rows c =
    le 4 (cut_count (length rows) c)
    ++ (rows_form xs first_named (take c.front rows)
    ++ (rows_form ys (number_behind first_named (take c.front rows)) (put_rows c.put)
    ++ rows_form xs (number_behind (number_behind first_named (take c.front rows)) (put_rows c.put)) (drop c.back rows)))
