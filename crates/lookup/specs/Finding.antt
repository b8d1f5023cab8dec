-- What a readable stream carries, and what the rows of a target's index say of it.
use Rattle.std.specs.Prelude.{◌≡◌, ℕ, ◌+◌, ◌<◌, ◌≤◌, List, [], ◌++◌, map, length, Some, None, Option}
use Rattle.std.specs.List.{AllByRecursion}
use Rattle.source.specs.Bytes.{part}
use Rattle.attribute.specs.Table.{code_page_id, recipients_id, message_properties_id}
use Rattle.attribute.specs.declared.Attribute.{Attribute}
use Rattle.frame.specs.declared.stages.Stage.{Stage}
use Rattle.frame.specs.declared.stages.Stage.TheVariants.{Version}
use Rattle.contents.specs.Contents.{Contents, means, normal}
use Rattle.index.specs.declared.attributes.AttributeRow.{AttributeRow}
use Rattle.property.specs.Lists.{Property, indexed}
use Rattle.stream.specs.Messages.{Message, Holding, or_default, as_primary, as_list, as_table, holding_of, attachment_parts, message_of}
use Rattle.form.specs.Targets.{remaining, Readable, Standing, AsWritten, NormalRow}
use Rattle.form.specs.Holdings.{Plain, contents_in, told_in}
use Rattle.form.specs.Wholes.{Rendered}

-- The message that a readable stream carries.
abbrev pub message_in : List ℕ → Message
message_in xs = message_of (remaining xs 6 Version)

-- The list under an id, and the table of recipients, in the rows of a target; empty where there is none.
abbrev pub list_in : ℕ → List ℕ → List AttributeRow → List Property
list_in i xs rows = or_default (told_in as_list i xs rows) []

abbrev pub table_in : List ℕ → List AttributeRow → List (List Property)
table_in xs rows = or_default (told_in as_table recipients_id xs rows) []

abbrev pub page_in : List ℕ → List AttributeRow → ℕ
page_in xs rows = or_default (told_in as_primary code_page_id xs rows) 0

-- Rows that say what a target holds, whose properties stand under an id.
pub record Says (xs : List ℕ) (rows : List AttributeRow) (i : ℕ) (h : Holding) : Type 0 where
  pub sound : AllByRecursion (Standing xs) rows
  pub attributes : (a : Attribute) → Plain a → contents_in xs rows a.id ≡ h.attributes a.id
  pub properties : indexed (list_in i xs rows) ≡ h.properties
  pub normal : AsWritten xs 6 Version → AllByRecursion (NormalRow xs) rows

-- Those of the message have its primary number and its table too.
pub record SaysMessage (xs : List ℕ) (rows : List AttributeRow) : Type 0 where
  pub own : Says xs rows message_properties_id (message_in xs).own
  pub page : page_in xs rows ≡ (message_in xs).primary
  pub table : map indexed (table_in xs rows) ≡ (message_in xs).rows

-- `count` attachments were passed, and the next one begins at p, if there is one.
pub record Passed (xs : List ℕ) (count p : ℕ) (s : Stage) : Type 0 where
  pub good : Readable xs p s
  pub rendered : Rendered (remaining xs p s)
  pub front : List Holding
  pub counted : length front ≡ count
  pub split : (message_in xs).attachments ≡ front ++ map holding_of (attachment_parts (remaining xs p s))
  pub few : count < p
  pub along : AsWritten xs 6 Version → AsWritten xs p s

-- The rows of a target that may not be there.
abbrev pub SaysAny : List ℕ → ℕ → Option Holding → Option (List AttributeRow) → Type 0
SaysAny xs i o None = o ≡ None
SaysAny xs i o (Some rows) = (h : Holding) × (o ≡ Some h) × Says xs rows i h

-- The data of an attribute stand where a row says, and mean contents.
pub record Stood (xs : List ℕ) (a : Attribute) (c : Contents) (r : AttributeRow) : Type 0 where
  pub id : r.id ≡ a.id
  pub within : r.place + r.size ≤ length xs
  pub means : means a.rule (part xs r.place r.size) ≡ Some c

-- A row where there are contents, and none where there are none.
abbrev pub ContentsStand : List ℕ → Attribute → Option Contents → Option AttributeRow → Type 0
ContentsStand xs a o None = o ≡ None
ContentsStand xs a o (Some r) = (c : Contents) × (o ≡ Some c) × Stood xs a c r

-- Where a stream is as it is written, the data are normal.
abbrev pub NormalStand : List ℕ → Option Contents → Option AttributeRow → Type 0
NormalStand xs o None = Unit {0}
NormalStand xs o (Some r) = (c : Contents) × (o ≡ Some c) × (part xs r.place r.size ≡ normal c)
