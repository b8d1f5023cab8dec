-- What writers of lists and tables promise.
use Rattle.std.specs.Prelude.{◌≡◌, ℕ, ◌≤◌, List, map, length, Ok, Some, Option}
use Rattle.std.specs.List.{flat_map}
use Rattle.pen.specs.declared.Pen.{Pen}
use Rattle.pen.specs.Pen.{Wrote}
use Rattle.property.specs.Fields.{At, repeated}
use Rattle.property.specs.Lists.{Property, list_limit, list_at, property_list, recipient_table, indexed}
use Rattle.property.specs.Writing.{write_list, write_table}

-- The normal form of a list: each key once, as keys first come.
abbrev pub form : List Property → List ℕ
form ps = write_list (indexed ps)

-- Where the data of xs from `base` to `end` are a list, and rows are lent for as many properties as a list can have, exactly
-- its normal form is written.
abbrev pub ListWritten : List ℕ → (base end room : ℕ) → (before after : Pen) → Type 0
ListWritten xs base end room before after =
    (ps : List Property) → property_list xs base end ≡ Ok ps → end ≤ length xs → list_limit ≤ room → Wrote before (write_list (indexed ps)) after

-- Where they are a table, every list of it is written so, with names that are numbered anew.
abbrev pub TableWritten : List ℕ → (base end room : ℕ) → (before after : Pen) → Type 0
TableWritten xs base end room before after =
    (rs : List (List Property)) → recipient_table xs base end ≡ Ok rs → end ≤ length xs → list_limit ≤ room
    → Wrote before (write_table (map indexed rs)) after

-- One list at a place, and the place behind it.
abbrev pub OneWritten : List ℕ → (place end : ℕ) → (before after : Pen) → Option ℕ → Type 0
OneWritten xs place end before after r =
    (a : At (List Property)) → list_at xs end place ≡ Ok a → (r ≡ Some a.next) × Wrote before (form a.what) after

-- So many lists, one after another.
abbrev pub AllWritten : List ℕ → (count place end : ℕ) → (before after : Pen) → Type 0
AllWritten xs count place end before after =
    (a : At (List (List Property))) → repeated (list_at xs end) count place ≡ Ok a → Wrote before (flat_map form a.what) after
