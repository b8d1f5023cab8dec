use Rattle.std.specs.Prelude.{ℕ, Bool, false, ◌&&◌, List, take, ◌==◌}
use Rattle.std.specs.Str.{bytes_eq}
use Rattle.index.specs.declared.keys.PropertyKey.{PropertyKey}
use Rattle.index.specs.declared.keys.PropertyKey.TheVariants.{Tag, Numbered, Named}
use Rattle.index.specs.declared.names.Name.{Name}

-- A property is found by its id, or by its name where it has one.
pub data Key : Type 0 where
  tag : ℕ → Key
  numbered : (guid : List ℕ) → (number : ℕ) → Key
  named : (guid : List ℕ) → (string : List ℕ) → Key  -- the UTF-16 bytes, the closing 00 00 included

abbrev pub same_key : Key → Key → Bool
same_key (tag i) (tag j) = i == j
same_key (tag i) (numbered g n) = false
same_key (tag i) (named g s) = false
same_key (numbered g n) (tag j) = false
same_key (numbered g n) (numbered h m) = bytes_eq g h && n == m
same_key (numbered g n) (named h s) = false
same_key (named g s) (tag j) = false
same_key (named g s) (numbered h m) = false
same_key (named g s) (named h t) = bytes_eq g h && bytes_eq s t

abbrev pub name_text : Name → List ℕ
name_text s = take s.used s.bytes

-- What a key of the code means.
abbrev pub key_of : PropertyKey → Key
key_of (Tag i) = tag i
key_of (Numbered g n) = numbered g n
key_of (Named g s) = named g (name_text s)
