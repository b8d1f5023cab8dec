-- The types of properties, and what values of a kind are.
use Rattle.std.specs.Prelude.{◌≡◌, ℕ, ◌-◌, Bool, true, false, cond, not, ◌||◌, List, length, Some, None, Option, ◌==◌, nat_le}
use Rattle.source.specs.Bytes.{val, le}
use Rattle.scan.specs.Texts.{is_text8, is_text16}
use Rattle.property.specs.declared.kinds.Kind.{Kind}
use Rattle.property.specs.declared.kinds.Kind.TheVariants.{Fixed, YesNo, String8, String16, Binary, Object}
use Rattle.property.specs.declared.kinds.Shape.{Shape}

abbrev pub single_kind : ℕ → Option Kind
single_kind t =
    cond (t == 0x0002) (Some (Fixed 2))
    (cond (t == 0x000B) (Some YesNo)
    (cond (t == 0x0003 || t == 0x0004) (Some (Fixed 4))
    (cond (t == 0x0005 || t == 0x0006 || t == 0x0007 || t == 0x0014 || t == 0x0040) (Some (Fixed 8))
    (cond (t == 0x0048) (Some (Fixed 16))
    (cond (t == 0x001E) (Some String8)
    (cond (t == 0x001F) (Some String16)
    (cond (t == 0x0102) (Some Binary)
    (cond (t == 0x000D) (Some Object) None))))))))

-- Whether a kind has a type of several values.
abbrev pub has_several : Kind → Bool
has_several (Fixed w) = true
has_several YesNo = false
has_several String8 = true
has_several String16 = true
has_several Binary = true
has_several Object = false

abbrev pub several_of : Option Kind → Option Shape
several_of None = None
several_of (Some k) = cond (has_several k) (Some (record { kind = k; several = true })) None

abbrev pub single_of : Option Kind → Option Shape → Option Shape
single_of (Some k) o = Some (record { kind = k; several = false })
single_of None o = o

-- The shape of a type's values: one, or several where 0x1000 is added.
unfoldable pub shape_of : ℕ → Option Shape
shape_of t = single_of (single_kind t) (cond (nat_le 0x1000 t) (several_of (single_kind (t - 0x1000))) None)

-- The width of a kind that has one.
abbrev pub width : Kind → Option ℕ
width (Fixed w) = Some w
width YesNo = Some 2
width String8 = None
width String16 = None
width Binary = None
width Object = None

-- What a value of a kind may be, without its padding.
abbrev pub admits : Kind → List ℕ → Bool
admits (Fixed w) xs = true
admits YesNo xs = true
admits String8 xs = is_text8 xs
admits String16 xs = is_text16 xs
admits Binary xs = true
admits Object xs = nat_le 16 (length xs)

-- One value: a truth, or bytes that are all kept.
pub data Value : Type 0 where
  truth : Bool → Value
  bytes : List ℕ → Value

abbrev pub value : Kind → List ℕ → Value
value (Fixed w) xs = bytes xs
value YesNo xs = truth (not (val xs == 0))
value String8 xs = bytes xs
value String16 xs = bytes xs
value Binary xs = bytes xs
value Object xs = bytes xs

-- The normal bytes of a value.
abbrev pub normal : Value → List ℕ
normal (truth b) = le 2 (cond b 1 0)
normal (bytes xs) = xs

-- The laws of kinds, over the bytes that a kind admits, of its width where it has one.
abbrev pub of_width : Option ℕ → List ℕ → Bool
of_width (Some w) xs = length xs == w
of_width None xs = true

abbrev pub Admitted : Kind → List ℕ → Type 0
Admitted k xs = (of_width (width k) xs ≡ true) × (admits k xs ≡ true)

pub record Lawful : Type 0 where
  pub admitted : (k : Kind) (xs : List ℕ) → Admitted k xs → Admitted k (normal (value k xs))
  pub means : (k : Kind) (xs : List ℕ) → Admitted k xs → value k (normal (value k xs)) ≡ value k xs
  pub like : (k : Kind) (xs ys : List ℕ) → Admitted k xs → Admitted k ys → value k xs ≡ value k ys → normal (value k xs) ≡ normal (value k ys)
  pub unlike : (k : Kind) (xs ys : List ℕ) → Admitted k xs → Admitted k ys → normal (value k xs) ≡ normal (value k ys) → value k xs ≡ value k ys
