-- What the code's rows and keys say of what was read.
use Rattle.std.specs.Prelude.{◌≡◌, ℕ, ◌+◌, List, Ok, Err, Result}
use Rattle.source.specs.Bytes.{part}
use Rattle.source.specs.Outcome.{Outcome}
use Rattle.source.specs.declared.refusals.Refusal.{Refusal}
use Rattle.index.specs.Keys.{Key, key_of}
use Rattle.index.specs.declared.properties.PropertyRow.{PropertyRow}
use Rattle.property.specs.declared.names.Keyed.{Keyed}
use Rattle.property.specs.Fields.{At, at, padded}
use Rattle.property.specs.Lists.{Property, property_from}

-- What stands at p where a size is n: its bytes, and the place behind their padding.
abbrev pub sized_by : List ℕ → ℕ → ℕ → At (List ℕ)
sized_by xs p n = at (part xs (p + 4) n) (p + 4 + padded n)

abbrev pub keyed : Keyed → At Key
keyed k = at (key_of k.key) k.next

-- A row carries the property that has its key, its type, and the values from its place on to the next.
abbrev pub Carries : List ℕ → ℕ → PropertyRow → Property → Type 0
Carries xs end row p =
    (start : ℕ) × (property_from xs end start row.number (at (key_of row.key) row.values) ≡ Ok (at p row.next))

-- A row where a property was read, which it carries; else the refusal.
abbrev pub ReadAt : List ℕ → ℕ → Outcome (At Property) → Result PropertyRow Refusal → Type 0
ReadAt xs end o (Ok row) = (p : Property) × (o ≡ Ok (at p row.next)) × Carries xs end row p
ReadAt xs end o (Err e) = o ≡ Err e

abbrev pub ReadOne : List ℕ → ℕ → Outcome Property → Result PropertyRow Refusal → Type 0
ReadOne xs end o (Ok row) = (p : Property) × (o ≡ Ok p) × Carries xs end row p
ReadOne xs end o (Err e) = o ≡ Err e
