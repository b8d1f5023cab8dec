-- Where properties stand in a stream.
use Rattle.std.specs.Prelude.{◌≡◌, ℕ, ◌-◌, ◌<◌, ◌≤◌, true, false, List, length, take, drop, Some, None, Ok, Option, slice_index_or}
use Rattle.source.specs.Outcome.{Outcome}
use Rattle.index.specs.Keys.{Key}
use Rattle.index.specs.declared.properties.PropertyRow.{PropertyRow}
use Rattle.property.specs.Fields.{At, at, repeated}
use Rattle.property.specs.Indexing.{Carried}
use Rattle.property.specs.Lists.{Property, indexed}
use Rattle.property.specs.Rows.{Carries}
use Rattle.stream.specs.Messages.{Holding}
use Rattle.message.specs.Sameness.{property_in}
use Rattle.editing.specs.Slots.{has_key}

-- The first n rows carry properties, one each.
pub record Carrying (xs : List ℕ) (rows : List PropertyRow) (n : ℕ) (ps : List Property) : Type 0 where
  pub end : ℕ
  pub within : end ≤ length xs
  pub room : n ≤ length rows
  pub counted : n ≡ length ps
  pub carried : Carried xs end (take n rows) ps

-- The properties of a target, if it is there.
abbrev pub CarriesAny : List ℕ → List PropertyRow → Option Holding → Option ℕ → Type 0
CarriesAny xs rows o None = o ≡ None
CarriesAny xs rows o (Some n) = (h : Holding) × (o ≡ Some h) × Carrying xs rows n h.properties

-- The list with a number in a table, if it is there.
abbrev pub CarriesList : List ℕ → List PropertyRow → Option (List Property) → Option ℕ → Type 0
CarriesList xs rows o None = o ≡ None
CarriesList xs rows o (Some n) = (ps : List Property) × (o ≡ Some ps) × Carrying xs rows n (indexed ps)

-- From p, k readings lead to q.
abbrev pub Reaches : {A : Type 0} → (ℕ → Outcome (At A)) → ℕ → ℕ → ℕ → Type 0
Reaches {A} read k p q = (n : ℕ) (a : At (List A)) → k ≤ n → repeated read n p ≡ Ok a → repeated read (n - k) q ≡ Ok (at (drop k a.what) a.next)

-- The row of a key, among rows that carry properties.
abbrev pub KeyFound : List ℕ → ℕ → List PropertyRow → List Property → Key → Option ℕ → Type 0
KeyFound xs end rows ps k None = (has_key k ps ≡ false) × (property_in ps k ≡ None)
KeyFound xs end rows ps k (Some i) =
    (has_key k ps ≡ true) × (i < length rows)
    × (p : Property) × (property_in ps k ≡ Some p) × ((d : PropertyRow) → Carries xs end (slice_index_or rows i d) p)
