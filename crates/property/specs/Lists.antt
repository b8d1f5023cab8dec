-- Properties, lists of them, and tables of lists.
use Rattle.std.specs.Prelude.{ℕ, ◌+◌, Bool, false, List, Ok, nat_le}
use Rattle.source.specs.Outcome.{Outcome, ◌>>=◌, ◌>>◌, need, given}
use Rattle.source.specs.declared.refusals.Reason.TheVariants.{FieldRule, Limit}
use Rattle.index.specs.Keys.{Key, same_key}
use Rattle.index.specs.Rows as rows
use Rattle.property.specs.Fields.{At, at, repeated, number_at, whole}
use Rattle.property.specs.Kinds.{Value, shape_of}
use Rattle.property.specs.Names.{key_at}
use Rattle.property.specs.Values.{values_at}

pub record Property : Type 0 where
  pub key : Key
  pub type : ℕ
  pub values : List Value

-- The most properties of a list, and the most lists of a table.
abbrev pub list_limit : ℕ
list_limit = 1024

abbrev pub row_limit : ℕ
row_limit = 1024

-- The property that begins at `start`, of which the type and the key were read.
unfoldable pub property_from : List ℕ → ℕ → ℕ → ℕ → At Key → Outcome (At Property)
unfolding ◌>>=◌
property_from xs end start t k = do
  s ← given (shape_of t) FieldRule start
  v ← values_at xs end start s k.next
  Ok (at (record { key = k.what; type = t; values = v.what }) v.next)

-- A type, which is judged before the key is read; a key; the values.
unfoldable pub property_at : List ℕ → ℕ → ℕ → Outcome (At Property)
unfolding ◌>>=◌
property_at xs end p = do
  t ← number_at xs end p p 2
  s ← given (shape_of t) FieldRule p
  k ← key_at xs end p (p + 2)
  property_from xs end p t k

unfoldable pub list_at : List ℕ → ℕ → ℕ → Outcome (At (List Property))
unfolding ◌>>=◌ ◌>>◌
list_at xs end p = do
  n ← number_at xs end p p 4
  need (nat_le n list_limit) Limit p
  repeated (property_at xs end) n (p + 4)

unfoldable pub table_at : List ℕ → ℕ → ℕ → Outcome (At (List (List Property)))
unfolding ◌>>=◌ ◌>>◌
table_at xs end p = do
  n ← number_at xs end p p 4
  need (nat_le n row_limit) Limit p
  repeated (list_at xs end) n (p + 4)

-- The data from base to end as one property, one list, and a table.
unfoldable pub one_property : List ℕ → ℕ → ℕ → Outcome Property
unfolding ◌>>=◌
one_property xs base end = do
  a ← property_at xs end base
  whole end a

unfoldable pub property_list : List ℕ → ℕ → ℕ → Outcome (List Property)
unfolding ◌>>=◌
property_list xs base end = do
  a ← list_at xs end base
  whole end a

unfoldable pub recipient_table : List ℕ → ℕ → ℕ → Outcome (List (List Property))
unfolding ◌>>=◌
recipient_table xs base end = do
  a ← table_at xs end base
  whole end a

-- As keys first come: a property with a new key goes to the end, and of equal keys the earlier stays.
abbrev pub same_property : Property → Property → Bool
same_property p q = same_key p.key q.key

abbrev pub indexed : List Property → List Property
indexed ps = rows.indexed same_property false ps
