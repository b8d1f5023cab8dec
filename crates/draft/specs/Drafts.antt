-- What a call that changes a draft writes into it, and what it leaves.
use Rattle.std.specs.Prelude.{◌≡◌, ℕ, ◌-◌, Bool, ◌&&◌, List, [], ◌++◌, length, take, replicate, None, Ok, Err, nat_le}
use Rattle.source.specs.Content.{source_limit}
use Rattle.source.specs.Outcome.{Outcome, ◌>>=◌, ◌>>◌, need}
use Rattle.source.specs.declared.refusals.Reason.TheVariants.{ShortWork, FormTooLong}
use Rattle.index.specs.declared.keys.PropertyKey.TheVariants.{Tag}
use Rattle.index.specs.declared.properties.PropertyRow.{PropertyRow}
use Rattle.property.specs.Lists.{list_limit}
use Rattle.stream.specs.Messages.{Message, read}
use Rattle.stream.specs.Writing.{written}

-- How much work memory a call is given: bytes and rows.
pub record Memory : Type 0 where
  pub bytes : ℕ
  pub rows : ℕ

abbrev pub memory : List ℕ → List PropertyRow → Memory
memory bytes rows = record { bytes = length bytes; rows = length rows }

-- As many bytes as the area has room for, and rows for as many properties as a list can have.
abbrev pub enough : Memory → (room : ℕ) → Bool
enough w room = nat_le room w.bytes && nat_le list_limit w.rows

-- The written form of a message, where it fits.
unfoldable pub fitted : (room : ℕ) → Message → Outcome (List ℕ)
unfolding ◌>>◌
fitted room m = do
  need (nat_le (length (written m)) room && nat_le (length (written m)) source_limit) FormTooLong 0
  Ok (written m)

-- What a load of a source that means xs writes.
unfoldable pub loaded : Memory → (room : ℕ) → List ℕ → Outcome (List ℕ)
unfolding ◌>>=◌ ◌>>◌
loaded w room xs = do
  need (enough w room) ShortWork 0
  m ← read xs
  fitted room m

-- A message of nothing but its primary number, and what beginning with it writes.
abbrev pub blank : ℕ → Message
blank n = record { primary = n; own = record { attributes = λ i. None; properties = [] }; rows = []; attachments = [] }

unfoldable pub begun : Memory → (room : ℕ) → ℕ → Outcome (List ℕ)
unfolding ◌>>◌
begun w room n = do
  need (enough w room) ShortWork 0
  fitted room (blank n)

-- The area and length after a call: the new form and zeros, or what they were.
abbrev pub area_after : Outcome (List ℕ) → List ℕ → List ℕ
area_after (Ok form) area = form ++ replicate (length area - length form) 0
area_after (Err e) area = area

abbrev pub size_after : Outcome (List ℕ) → ℕ → ℕ
size_after (Ok form) n = length form
size_after (Err e) n = n

-- A row of nothing.
abbrev pub blank_row : PropertyRow
blank_row = record { key = Tag 0; number = 0; values = 0; next = 0 }

-- Where a form was written, it stands at the front of the bytes.
abbrev pub Front : Outcome (List ℕ) → List ℕ → Type 0
Front (Ok form) bytes = take (length form) bytes ≡ form
Front (Err e) bytes = Unit {0}
