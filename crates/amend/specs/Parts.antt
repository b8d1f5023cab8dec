-- What is written of rows whose target is changed.
use Rattle.std.specs.Prelude.{ℕ, List, [], ◌++◌, map, Option}
use Rattle.std.specs.List.{flat_map}
use Rattle.attribute.specs.Table.{message_attributes, code_page_id, recipients_id, message_properties_id, attachment_properties_id}
use Rattle.attribute.specs.declared.Attribute.{Attribute}
use Rattle.index.specs.declared.attributes.AttributeRow.{AttributeRow}
use Rattle.property.specs.Lists.{indexed}
use Rattle.stream.specs.Reading.{primary}
use Rattle.stream.specs.Messages.{Holding, or_default, as_primary, as_list, as_table}
use Rattle.stream.specs.Writing.{write_entry, found, attribute_entries, list_entries, table_entries, attachment_entries}
use Rattle.form.specs.Holdings.{contents_in, told_in}
use Rattle.editing.specs.Amendments as spec
use Rattle.editing.specs.Amendments.{slot_after, list_after, touched, rows_after}

-- The frame of one attribute as a slot leaves it, and those of a table.
unfoldable pub attribute_after : List ℕ → List AttributeRow → spec.Slot → Attribute → List ℕ
attribute_after xs rows σ a = flat_map write_entry (found a.id (slot_after σ (contents_in xs rows) a.id))

unfoldable pub attributes_after : List ℕ → List AttributeRow → spec.Slot → List Attribute → List ℕ
attributes_after xs rows σ all = flat_map write_entry (attribute_entries all (slot_after σ (contents_in xs rows)))

-- The frame of the code page, with a new primary number if there is one.
unfoldable pub page_after : List ℕ → List AttributeRow → Option ℕ → List ℕ
page_after xs rows o =
    write_entry (record { id = code_page_id; meant = primary (or_default o (or_default (told_in as_primary code_page_id xs rows) 0)) })

-- The frame of the properties under an id, and of the table of recipients.
unfoldable pub properties_after : List ℕ → List AttributeRow → ℕ → spec.Listing → List ℕ
properties_after xs rows i l = flat_map write_entry (list_entries i (list_after l (indexed (or_default (told_in as_list i xs rows) []))))

unfoldable pub recipients_after : List ℕ → List AttributeRow → spec.Rowing → List ℕ
recipients_after xs rows ρ = flat_map write_entry (table_entries (rows_after ρ (map indexed (or_default (told_in as_table recipients_id xs rows) []))))

-- What rows hold, with the properties under an id.
abbrev pub holding_in : List ℕ → List AttributeRow → ℕ → Holding
holding_in xs rows i = record { attributes = contents_in xs rows; properties = indexed (or_default (told_in as_list i xs rows) []) }

-- The frames of an attachment that is touched.
unfoldable pub attachment_after : List ℕ → List AttributeRow → spec.Touch → List ℕ
attachment_after xs rows τ = flat_map write_entry (attachment_entries (touched τ (holding_in xs rows attachment_properties_id)))

-- The frames of a message that is touched, and whose rows are changed.
unfoldable pub message_after : List ℕ → List AttributeRow → spec.Touch → spec.Rowing → List ℕ
message_after xs rows τ ρ =
    attributes_after xs rows τ.slot message_attributes ++ (recipients_after xs rows ρ ++ properties_after xs rows message_properties_id τ.listing)
