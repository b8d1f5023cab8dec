-- Which properties, lists and tables can be written, and that what is written is read back.
use Rattle.std.specs.Prelude.{◌≡◌, ℕ, ◌+◌, ◌^◌, ◌<◌, ◌≤◌, Bool, true, false, cond, List, length, Some, None, Ok, Option, ◌==◌, nat_le}
use Rattle.std.specs.List.{AllByRecursion}
use Rattle.source.specs.Bytes.{part}
use Rattle.scan.specs.Texts.{is_text16}
use Rattle.index.specs.Keys.{Key, tag, numbered, named}
use Rattle.index.specs.Limits.{name_limit}
use Rattle.property.specs.declared.kinds.Kind.{Kind}
use Rattle.property.specs.declared.kinds.Shape.{Shape}
use Rattle.property.specs.Fields.{at}
use Rattle.property.specs.Kinds.{Value, value, normal, width, shape_of, Admitted}
use Rattle.property.specs.Lists.{Property, list_limit, row_limit, list_at, table_at}
use Rattle.property.specs.Names.{first_named}
use Rattle.property.specs.Writing.{write_list, write_table}

abbrev pub ValidKey : Key → Type 0
ValidKey (tag i) = i < first_named
ValidKey (numbered g n) = (length g ≡ 16) × (n < 256 ^ 4)
ValidKey (named g s) = (length g ≡ 16) × (length s ≤ name_limit) × (is_text16 s ≡ true)

-- A value of a kind: its normal bytes are admitted and mean it.
pub record OfKind (k : Kind) (v : Value) : Type 0 where
  pub admitted : Admitted k (normal v)
  pub means : value k (normal v) ≡ v
  pub small : length (normal v) < 256 ^ 4

abbrev pub Counted : Option ℕ → Bool → ℕ → Type 0
Counted (Some w) true n = n < 256 ^ 4
Counted (Some w) false n = n ≡ 1
Counted None several n = (n < 256 ^ 4) × (cond several (nat_le 1 n) (n == 1) ≡ true)

abbrev pub ValidValues : Option Shape → List Value → Type 0
ValidValues None vs = ⊥
ValidValues (Some s) vs = AllByRecursion (OfKind s.kind) vs × Counted (width s.kind) s.several (length vs)

pub record Valid (p : Property) : Type 0 where
  pub type_small : p.type < 256 ^ 2
  pub key_valid : ValidKey p.key
  pub values_valid : ValidValues (shape_of p.type) p.values

abbrev pub ValidList : List Property → Type 0
ValidList ps = AllByRecursion Valid ps × (length ps ≤ list_limit)

abbrev pub ValidTable : List (List Property) → Type 0
ValidTable rs = AllByRecursion ValidList rs × (length rs ≤ row_limit)

-- The bytes bs stand at p, within data that end at `end`.
abbrev pub Stands : List ℕ → ℕ → ℕ → List ℕ → Type 0
Stands xs end p bs = (p + length bs ≤ end) × (part xs p (length bs) ≡ bs)

-- What was written is read again, wherever it stands.
pub record IsReadBack : Type 0 where
  pub lists : (xs : List ℕ) (end p : ℕ) (ps : List Property) → end ≤ length xs → ValidList ps → Stands xs end p (write_list ps)
      → list_at xs end p ≡ Ok (at ps (p + length (write_list ps)))
  pub tables : (xs : List ℕ) (end p : ℕ) (rs : List (List Property)) → end ≤ length xs → ValidTable rs → Stands xs end p (write_table rs)
      → table_at xs end p ≡ Ok (at rs (p + length (write_table rs)))
