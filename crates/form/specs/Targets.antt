-- A target's frames, by the rows of an index.
use Rattle.std.specs.Prelude.{◌≡◌, ℕ, ◌+◌, ◌^◌, ◌<◌, ◌≤◌, Bool, cond, ◌&&◌, List, [], ◌∷◌, map, length, drop, Some, None, Ok, Err, Option, ◌==◌, nat_lt}
use Rattle.std.specs.List.{flat_map, AllByRecursion}
use Rattle.source.specs.Bytes.{part}
use Rattle.source.specs.Outcome.{Outcome}
use Rattle.property.specs.Fields.{done}
use Rattle.attribute.specs.Table.{attribute_of, rendering_id}
use Rattle.attribute.specs.declared.Attribute.{Attribute}
use Rattle.attribute.specs.declared.Rule.{Rule}
use Rattle.attribute.specs.declared.Rule.TheVariants as rule
use Rattle.frame.specs.declared.Frame.{Frame}
use Rattle.frame.specs.declared.stages.Stage.{Stage}
use Rattle.index.specs.declared.attributes.AttributeRow.{AttributeRow}
use Rattle.stream.specs.Reading.{Meant, version, nature, meant_as, Entry, entries_at}
use Rattle.stream.specs.Messages.{message_part}
use Rattle.stream.specs.Writing.{entry_data, write_entry}

abbrev pub or_none : Outcome (List Entry) → List Entry
or_none (Ok es) = es
or_none (Err r) = []

-- The entries from place p on; none where they are refused.
unfoldable pub remaining : List ℕ → ℕ → Stage → List Entry
remaining xs p s = or_none (entries_at (length xs) xs p s)

-- A stream that is read to its end from p on.
pub record Readable (xs : List ℕ) (p : ℕ) (s : Stage) : Type 0 where
  pub begun : 0 < p
  pub reads : done (entries_at (length xs) xs p s) ≡ Ok tt

-- A target's entries: the first, and those behind it up to the next rendering.
unfoldable pub own_part : List Entry → List Entry
own_part [] = []
own_part (e ∷ es) = e ∷ message_part es

-- The entries from the next rendering on.
unfoldable pub later_part : List Entry → List Entry
later_part [] = []
later_part (e ∷ es) = cond (e.id == rendering_id) (e ∷ es) (later_part es)

-- The entries behind a target's.
unfoldable pub past_part : List Entry → List Entry
past_part [] = []
past_part (e ∷ es) = later_part es

abbrev pub rule_in : Option Attribute → Rule
rule_in (Some a) = a.rule
rule_in None = rule.Raw

-- What the data of a row mean.
unfoldable pub row_meant : List ℕ → AttributeRow → Outcome Meant
row_meant xs r = meant_as (nature (rule_in (attribute_of r.id))) (rule_in (attribute_of r.id)) xs r.place r.size

abbrev pub or_version : Outcome Meant → Meant
or_version (Ok m) = m
or_version (Err r) = version

unfoldable pub row_entry : List ℕ → AttributeRow → Entry
row_entry xs r = record { id = r.id; meant = or_version (row_meant xs r) }

-- A row whose data stand in the stream and mean something.
pub record Standing (xs : List ℕ) (r : AttributeRow) : Type 0 where
  pub within : r.place + r.size ≤ length xs
  pub reads : row_meant xs r ≡ Ok (or_version (row_meant xs r))

abbrev pub frame_row : Frame → AttributeRow
frame_row f = record { id = f.attribute.id; place = f.place + 9; size = f.size }

-- The frame that comes next, where it is of the same target as the `used` rows before it.
abbrev pub own_next : ℕ → Option Frame → Option Frame
own_next used None = None
own_next used (Some f) = cond (nat_lt 0 used && f.attribute.id == rendering_id) None (Some f)

-- The first entry under an id.
abbrev pub entry_under : ℕ → List Entry → Option Entry
entry_under i [] = None
entry_under i (e ∷ es) = cond (e.id == i) (Some e) (entry_under i es)

-- The first row under an id.
abbrev pub row_under : ℕ → List AttributeRow → Option AttributeRow
row_under i [] = None
row_under i (r ∷ rs) = cond (r.id == i) (Some r) (row_under i rs)

abbrev pub same_id : AttributeRow → AttributeRow → Bool
same_id x y = x.id == y.id

-- Rows that say under each id what entries say: the earliest of that id.
pub record Gathered (xs : List ℕ) (es : List Entry) (rows : List AttributeRow) : Type 0 where
  pub held : (i : ℕ) → entry_under i (map (row_entry xs) rows) ≡ entry_under i es
  pub sound : AllByRecursion (Standing xs) rows

-- A stream that from p on is as its entries are written.
pub record AsWritten (xs : List ℕ) (p : ℕ) (s : Stage) : Type 0 where
  pub short : length xs < 256 ^ 4
  pub left : drop p xs ≡ flat_map write_entry (remaining xs p s)

-- A row whose data are the normal data of what they mean.
abbrev pub NormalRow : List ℕ → AttributeRow → Type 0
NormalRow xs r = part xs r.place r.size ≡ entry_data (row_entry xs r).meant

-- A target that was gathered from p on, and where the next one begins.
pub record Taken (xs : List ℕ) (p : ℕ) (s : Stage) (rows : List AttributeRow) (q : ℕ) (t : Stage) : Type 0 where
  pub gathered : Gathered xs (own_part (remaining xs p s)) rows
  pub rest : remaining xs q t ≡ past_part (remaining xs p s)
  pub after : Readable xs q t
  pub onward : p < length xs → p < q

-- A target of a stream that is as its entries are written: what is left of the stream is so too, and the rows' data are normal.
pub record StaysWritten (xs : List ℕ) (p : ℕ) (s : Stage) (rows : List AttributeRow) (q : ℕ) (t : Stage) : Type 0 where
  pub along : AsWritten xs p s → AsWritten xs q t
  pub normal : AsWritten xs p s → AllByRecursion (NormalRow xs) rows
