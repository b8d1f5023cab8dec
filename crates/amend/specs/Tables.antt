-- A table of which one row is changed, added or left out, row by row.
use Rattle.std.specs.Prelude.{◌≡◌, ℕ, ◌+◌, ◌-◌, ◌≤◌, cond, List, [], ◌∷◌, ◌++◌, map, length, Some, None, Ok, Option, ◌==◌, nat_lt}
use Rattle.std.specs.List.{flat_map}
use Rattle.source.specs.Bytes.{le}
use Rattle.pen.specs.Pen.{Wrote}
use Rattle.pen.specs.declared.Pen.{Pen}
use Rattle.property.specs.Fields.{At, at, repeated}
use Rattle.property.specs.Lists.{Property, row_limit, list_at, indexed}
use Rattle.property.specs.Writing.{write_list}
use Rattle.editing.specs.Amendments as spec
use Rattle.amend.specs.Changes.{ListingMeans, RowingMeans}
use Rattle.amend.specs.declared.changes.Listing.{Listing}
use Rattle.amend.specs.declared.changes.Listing.TheVariants.{Same}
use Rattle.amend.specs.declared.changes.Change.{Change}
use Rattle.amend.specs.declared.changes.Change.TheVariants.{Kept, Added, Removed, Changed}
use Rattle.amend.specs.declared.tables.Tabled.{Tabled}

-- What becomes of the i-th row: it is left out, or written with a change.
abbrev pub turn_of : Change Listing → ℕ → Option Listing
turn_of Kept i = Some Same
turn_of Added i = Some Same
turn_of (Removed r) i = cond (i == r) None (Some Same)
turn_of (Changed r l) i = cond (i == r) (Some l) (Some Same)

-- The same, of what changes mean.
abbrev pub turns_to : spec.Rowing → ℕ → Option spec.Listing
turns_to spec.as_they_are i = Some spec.same
turns_to spec.row_added i = Some spec.same
turns_to (spec.row_removed r) i = cond (i == r) None (Some spec.same)
turns_to (spec.row_changed r l) i = cond (i == r) (Some l) (Some spec.same)

abbrev pub TurnMeans : List ℕ → Option Listing → Option spec.Listing → Type 0
TurnMeans ys None None = Unit {0}
TurnMeans ys None (Some k) = ⊥
TurnMeans ys (Some l) None = ⊥
TurnMeans ys (Some l) (Some k) = ListingMeans ys l k

abbrev pub turn_after : Option spec.Listing → List Property → List (List Property)
turn_after None ps = []
turn_after (Some k) ps = spec.list_after k ps ∷ []

-- The rows from the i-th on.
abbrev pub rows_from : spec.Rowing → ℕ → List (List Property) → List (List Property)
rows_from ρ i [] = []
rows_from ρ i (ps ∷ rs) = turn_after (turns_to ρ i) ps ++ rows_from ρ (i + 1) rs

abbrev pub added_bytes : Change Listing → List ℕ
added_bytes Kept = []
added_bytes Added = le 4 0
added_bytes (Removed r) = []
added_bytes (Changed r l) = []

abbrev pub count_after : Change Listing → ℕ → ℕ
count_after Kept n = n
count_after Added n = n + 1
count_after (Removed r) n = cond (nat_lt r n) (n - 1) n
count_after (Changed r l) n = n

-- One list at a place, changed or left out, and the place behind it.
abbrev pub TurnWritten : (xs ys : List ℕ) → Option Listing → (place end : ℕ) → (before after : Pen) → Option ℕ → Type 0
TurnWritten xs ys turn place end before after r =
    (t : Option spec.Listing) → TurnMeans ys turn t → (a : At (List Property)) → list_at xs end place ≡ Ok a
    → (r ≡ Some a.next) × Wrote before (flat_map write_list (turn_after t (indexed a.what))) after

-- So many lists, one after another.
abbrev pub RowsWritten : (xs ys : List ℕ) → Change Listing → (count place end : ℕ) → (before after : Pen) → Type 0
RowsWritten xs ys rowing count place end before after =
    (ρ : spec.Rowing) → RowingMeans ys rowing ρ → (a : At (List (List Property))) → repeated (list_at xs end) count place ≡ Ok a
    → Wrote before (flat_map write_list (rows_from ρ 0 (map indexed a.what))) after

-- A table whose lists stand from a place on.
pub record TableRead (xs : List ℕ) (t : Tabled) (rs : List (List Property)) : Type 0 where
  pub within : t.end ≤ length xs
  pub counted : t.count ≡ length rs
  pub few : t.count ≤ row_limit
  pub reads : repeated (list_at xs t.end) t.count t.place ≡ Ok (at rs t.end)
