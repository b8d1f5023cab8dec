-- How properties, lists and tables are written: all values normal, and names numbered as their keys first come.
use Rattle.std.specs.Prelude.{ℕ, ◌+◌, Bool, true, false, List, [], ◌∷◌, ◌++◌, length, Some, None, Option}
use Rattle.std.specs.List.{flat_map}
use Rattle.source.specs.Bytes.{le}
use Rattle.index.specs.Keys.{Key, tag, numbered, named}
use Rattle.property.specs.declared.kinds.Shape.{Shape}
use Rattle.property.specs.Fields.{filled}
use Rattle.property.specs.Kinds.{Value, normal, width, shape_of}
use Rattle.property.specs.Lists.{Property}
use Rattle.property.specs.Names.{first_named}

unfoldable pub write_key : ℕ → Key → List ℕ
write_key number (tag i) = le 2 i
write_key number (numbered g n) = le 2 number ++ (g ++ (le 4 0 ++ le 4 n))
write_key number (named g s) = le 2 number ++ (g ++ (le 4 1 ++ (le 4 (length s) ++ filled s)))

abbrev pub write_fixed : Value → List ℕ
write_fixed v = filled (normal v)

abbrev pub write_sized : Value → List ℕ
write_sized v = le 4 (length (normal v)) ++ filled (normal v)

-- A count, where it is written.
abbrev pub write_count : Bool → ℕ → List ℕ
write_count true n = le 4 n
write_count false n = []

unfoldable pub write_values : Option ℕ → Bool → List Value → List ℕ
write_values (Some w) several vs = write_count several (length vs) ++ flat_map write_fixed vs
write_values None several vs = le 4 (length vs) ++ flat_map write_sized vs

abbrev pub write_shaped : Option Shape → List Value → List ℕ
write_shaped None vs = []
write_shaped (Some s) vs = write_values (width s.kind) s.several vs

unfoldable pub write_property : ℕ → Property → List ℕ
write_property number p = le 2 p.type ++ (write_key number p.key ++ write_shaped (shape_of p.type) p.values)

-- The number that the next name gets.
abbrev pub after_key : Key → ℕ → ℕ
after_key (tag i) n = n
after_key (numbered g m) n = n + 1
after_key (named g s) n = n + 1

abbrev pub write_properties : ℕ → List Property → List ℕ
write_properties n [] = []
write_properties n (p ∷ ps) = write_property n p ++ write_properties (after_key p.key n) ps

unfoldable pub write_list : List Property → List ℕ
write_list ps = le 4 (length ps) ++ write_properties first_named ps

unfoldable pub write_table : List (List Property) → List ℕ
write_table rs = le 4 (length rs) ++ flat_map write_list rs
