-- What asks and counts answer of a message.
use Rattle.std.specs.Prelude.{ℕ, ◌-◌, ◌*◌, ◌^◌, cond, ◌||◌, List, length, take, drop, ℤ, pos, negsuc, Some, None, Ok, Option, ◌==◌, nat_lt}
use Rattle.source.specs.Bytes.{val}
use Rattle.source.specs.Outcome.{Outcome, ◌>>=◌, given}
use Rattle.source.specs.declared.refusals.Reason.TheVariants.{Missing}
use Rattle.scan.specs.Texts.{before_zero}
use Rattle.attribute.specs.Table.{code_page_id}
use Rattle.contents.specs.Contents.{Contents, text, class, date, digits, status, importance, truth, raw, rendering, version, code_page, normal}
use Rattle.contents.specs.Status.{flags, flag}
use Rattle.property.specs.Kinds as kinds
use Rattle.property.specs.Kinds.{Value}
use Rattle.stream.specs.Messages.{Message, Holding}
use Rattle.message.specs.declared.Target.{Target}
use Rattle.message.specs.Sameness.{nth, holding, property_in}
use Rattle.editing.specs.Targets.{may_put, attribute_for}
use Rattle.editing.specs.Edits.{given_key}

-- What an ask shows.
pub data Shown : Type 0 where
  words : List ℕ → Shown  -- text without its zero
  plain : List ℕ → Shown  -- the normal bytes, unpadded
  object : (identifier rest : List ℕ) → Shown
  pair : ℕ → Shown
  number : ℤ → Shown

-- The number that w bytes mean as a signed one.
abbrev pub signed : ℕ → List ℕ → ℤ
signed w xs = cond (nat_lt (val xs) (2 ^ (8 * w - 1))) (pos (val xs)) (negsuc (2 ^ (8 * w) - 1 - val xs))

abbrev pub show_contents : Contents → Shown
show_contents (text t) = words t
show_contents (class k) = pair k
show_contents (date d) = plain (normal (date d))
show_contents (digits ns) = plain (normal (digits ns))
show_contents (status s) = number (pos (flags s))
show_contents (importance n) = number (pos n)
show_contents (truth b) = number (pos (flag b 1))
show_contents (raw xs) = plain xs
show_contents (rendering k p w h f) = plain (normal (rendering k p w h f))
show_contents version = plain (normal version)
show_contents (code_page n) = number (pos n)

abbrev pub text_shown : List ℕ → Option (List ℕ) → Shown
text_shown xs (Some t) = words t
text_shown xs None = plain xs

-- The bytes of a value by the type of its property: signed numbers, text, an object, or just the bytes.
abbrev pub show_bytes : ℕ → List ℕ → Shown
show_bytes t xs =
    cond (t == 0x0002 || t == 0x1002) (number (signed 2 xs))
    (cond (t == 0x0003 || t == 0x1003) (number (signed 4 xs))
    (cond (t == 0x0006 || t == 0x1006 || t == 0x0014 || t == 0x1014) (number (signed 8 xs))
    (cond (t == 0x001E || t == 0x101E) (text_shown xs (before_zero xs))
    (cond (t == 0x000D) (object (take 16 xs) (drop 16 xs)) (plain xs)))))

abbrev pub show_value : ℕ → Value → Shown
show_value t (kinds.truth b) = number (pos (flag b 1))
show_value t (kinds.bytes xs) = show_bytes t xs

-- The contents of an attribute; the primary number is the message's own.
abbrev pub contents_of : Message → Holding → ℕ → Option Contents
contents_of m h i = cond (i == code_page_id) (Some (code_page m.primary)) (h.attributes i)

unfoldable pub attribute_asked : Target → ℕ → Message → Outcome Shown
unfolding ◌>>=◌
attribute_asked t i m = do
  h ← given (holding m t) Missing 0
  a ← attribute_for t i may_put
  c ← given (contents_of m h i) Missing 0
  Ok (show_contents c)

unfoldable pub property_asked : Target → List ℕ → ℕ → Message → Outcome Shown
unfolding ◌>>=◌
property_asked t xs i m = do
  h ← given (holding m t) Missing 0
  k ← given_key xs
  p ← given (property_in h.properties k) Missing 0
  v ← given (nth p.values i) Missing 0
  Ok (show_value p.type v)

unfoldable pub properties_counted : Target → Message → Outcome ℕ
unfolding ◌>>=◌
properties_counted t m = do
  h ← given (holding m t) Missing 0
  Ok (length h.properties)
