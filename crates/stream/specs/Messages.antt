-- The message that a stream carries.
use Rattle.std.specs.Prelude.{ℕ, cond, List, [], ◌∷◌, map, Some, None, Option, ◌==◌}
use Rattle.source.specs.Outcome.{Outcome, over}
use Rattle.attribute.specs.Table.{rendering_id}
use Rattle.contents.specs.Contents.{Contents}
use Rattle.property.specs.Lists.{Property, indexed}
use Rattle.stream.specs.Reading.{Meant, version, primary, contents, list, table, Entry, entries_of}

-- What a target holds: the contents that each attribute has, and the properties.
pub record Holding : Type 0 where
  pub attributes : ℕ → Option Contents
  pub properties : List Property

pub record Message : Type 0 where
  pub primary : ℕ
  pub own : Holding
  pub rows : List (List Property)
  pub attachments : List Holding

abbrev pub or_else : {A : Type 0} → Option A → Option A → Option A
or_else (Some a) o = Some a
or_else None o = o

abbrev pub or_default : {A : Type 0} → Option A → A → A
or_default (Some a) d = a
or_default None d = d

-- The earliest entry that tells counts.
unfoldable pub first : {A : Type 0} → (Entry → Option A) → List Entry → Option A
first g [] = None
first g (e ∷ es) = or_else (g e) (first g es)

abbrev pub as_contents : Meant → Option Contents
as_contents (contents c) = Some c
as_contents version = None
as_contents (primary n) = None
as_contents (list ps) = None
as_contents (table rs) = None

abbrev pub as_list : Meant → Option (List Property)
as_list (list ps) = Some ps
as_list (contents c) = None
as_list version = None
as_list (primary n) = None
as_list (table rs) = None

abbrev pub as_table : Meant → Option (List (List Property))
as_table (table rs) = Some rs
as_table (contents c) = None
as_table version = None
as_table (primary n) = None
as_table (list ps) = None

abbrev pub as_primary : Meant → Option ℕ
as_primary (primary n) = Some n
as_primary (contents c) = None
as_primary version = None
as_primary (table rs) = None
as_primary (list ps) = None

abbrev pub contents_under : ℕ → Entry → Option Contents
contents_under i e = cond (e.id == i) (as_contents e.meant) None

unfoldable pub properties_of : List Entry → List Property
properties_of es = indexed (or_default (first (λ e. as_list e.meant) es) [])

unfoldable pub rows_of : List Entry → List (List Property)
rows_of es = map indexed (or_default (first (λ e. as_table e.meant) es) [])

unfoldable pub primary_of : List Entry → ℕ
primary_of es = or_default (first (λ e. as_primary e.meant) es) 0

abbrev pub holding_of : List Entry → Holding
holding_of es = record { attributes = λ i. first (contents_under i) es; properties = properties_of es }

-- The entries before the next rendering.
unfoldable pub message_part : List Entry → List Entry
message_part [] = []
message_part (e ∷ es) = cond (e.id == rendering_id) [] (e ∷ message_part es)

-- Every attachment's entries, the first of which is its rendering.
unfoldable pub attachment_parts : List Entry → List (List Entry)
attachment_parts [] = []
attachment_parts (e ∷ es) = cond (e.id == rendering_id) ((e ∷ message_part es) ∷ attachment_parts es) (attachment_parts es)

-- The message that entries carry.
abbrev pub message_of : List Entry → Message
message_of es = record {
  primary = primary_of es;
  own = holding_of (message_part es);
  rows = rows_of (message_part es);
  attachments = map holding_of (attachment_parts es);
}

-- Reading a stream: the message that it carries, or the first refusal that meets it.
unfoldable pub read : List ℕ → Outcome Message
read xs = over message_of (entries_of xs)
