-- What rows hold, and the frames that are written of it.
use Rattle.std.specs.Prelude.{◌≡◌, ℕ, List, [], ◌++◌, map, Some, None, Option}
use Rattle.std.specs.List.{flat_map}
use Rattle.attribute.specs.Table.{attribute_of, message_attributes, attachment_attributes, rendering_attribute, code_page_id, recipients_id, message_properties_id, attachment_properties_id}
use Rattle.attribute.specs.declared.Attribute.{Attribute}
use Rattle.contents.specs.Contents.{Contents}
use Rattle.index.specs.declared.attributes.AttributeRow.{AttributeRow}
use Rattle.property.specs.Lists.{indexed}
use Rattle.stream.specs.Reading.{Meant, primary, Nature, nature, plain, Entry}
use Rattle.stream.specs.Messages.{or_default, as_list, as_table, as_primary, first, contents_under}
use Rattle.stream.specs.Writing.{write_entry, found, attribute_entries, list_entries, table_entries}
use Rattle.form.specs.Targets.{row_entry, entry_under}

-- An attribute of the table whose data are of a kind.
pub record Natured (n : Nature) (a : Attribute) : Type 0 where
  pub known : attribute_of a.id ≡ Some a
  pub kind : nature a.rule ≡ n

abbrev pub Plain : Attribute → Type 0
Plain a = Natured plain a

-- The contents that rows have under an id.
abbrev pub contents_in : List ℕ → List AttributeRow → ℕ → Option Contents
contents_in xs rows i = first (contents_under i) (map (row_entry xs) rows)

-- The frame of one attribute, if the rows have it.
unfoldable pub attribute_bytes : List ℕ → List AttributeRow → Attribute → List ℕ
attribute_bytes xs rows a = flat_map write_entry (found a.id (contents_in xs rows a.id))

abbrev pub told_by : {A : Type 0} → (Meant → Option A) → Option Entry → Option A
told_by g None = None
told_by g (Some e) = g e.meant

-- What the row under an id tells.
abbrev pub told_in : {A : Type 0} → (Meant → Option A) → ℕ → List ℕ → List AttributeRow → Option A
told_in g i xs rows = told_by g (entry_under i (map (row_entry xs) rows))

-- The frames of the code page, of the recipients and of a list of properties.
unfoldable pub page_bytes : List ℕ → List AttributeRow → List ℕ
page_bytes xs rows = write_entry (record { id = code_page_id; meant = primary (or_default (told_in as_primary code_page_id xs rows) 0) })

unfoldable pub table_bytes : List ℕ → List AttributeRow → List ℕ
table_bytes xs rows = flat_map write_entry (table_entries (map indexed (or_default (told_in as_table recipients_id xs rows) [])))

unfoldable pub list_bytes : List ℕ → List AttributeRow → ℕ → List ℕ
list_bytes xs rows i = flat_map write_entry (list_entries i (indexed (or_default (told_in as_list i xs rows) [])))

-- The frames of a message and of an attachment.
unfoldable pub message_bytes : List ℕ → List AttributeRow → List ℕ
message_bytes xs rows =
    flat_map write_entry (attribute_entries message_attributes (contents_in xs rows)) ++ (table_bytes xs rows ++ list_bytes xs rows message_properties_id)

unfoldable pub attachment_bytes : List ℕ → List AttributeRow → List ℕ
attachment_bytes xs rows =
    attribute_bytes xs rows rendering_attribute
    ++ (flat_map write_entry (attribute_entries attachment_attributes (contents_in xs rows)) ++ list_bytes xs rows attachment_properties_id)
