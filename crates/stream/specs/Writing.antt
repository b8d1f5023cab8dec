-- The written form of a message.
use Rattle.std.specs.Prelude.{ℕ, List, [], ◌∷◌, ◌++◌, length, Some, None, Option}
use Rattle.std.specs.List.{flat_map}
use Rattle.source.specs.Bytes.{le}
use Rattle.scan.specs.Scans.{checksum}
use Rattle.attribute.specs.Table.{attribute_of, message_attributes, attachment_attributes, rendering_attribute, version_id, code_page_id, recipients_id, message_properties_id, attachment_properties_id}
use Rattle.attribute.specs.declared.Attribute.{Attribute}
use Rattle.frame.specs.Frames.{signature}
use Rattle.contents.specs.Contents.{Contents, normal, code_page, version_data}
use Rattle.property.specs.Lists.{Property}
use Rattle.property.specs.Writing.{write_list, write_table}
use Rattle.stream.specs.Reading.{Meant, version, primary, contents, list, table, Entry}
use Rattle.stream.specs.Messages.{Message, Holding}

-- The normal data of an entry.
abbrev pub entry_data : Meant → List ℕ
entry_data version = version_data
entry_data (primary n) = normal (code_page n)
entry_data (contents c) = normal c
entry_data (list ps) = write_list ps
entry_data (table rs) = write_table rs

abbrev pub level_in : Option Attribute → ℕ
level_in (Some a) = a.level
level_in None = 0

-- A frame: level, id, length, data, checksum.
abbrev pub write_frame : (level id : ℕ) → List ℕ → List ℕ
write_frame level id xs = level ∷ (le 4 id ++ (le 4 (length xs) ++ (xs ++ le 2 (checksum xs))))

unfoldable pub write_entry : Entry → List ℕ
write_entry e = write_frame (level_in (attribute_of e.id)) e.id (entry_data e.meant)

abbrev pub found : ℕ → Option Contents → List Entry
found i None = []
found i (Some c) = record { id = i; meant = contents c } ∷ []

-- The attributes of a table that are there, in the table's order.
unfoldable pub attribute_entries : List Attribute → (ℕ → Option Contents) → List Entry
attribute_entries [] held = []
attribute_entries (a ∷ rest) held = found a.id (held a.id) ++ attribute_entries rest held

-- An empty list or table has no frame.
abbrev pub list_entries : ℕ → List Property → List Entry
list_entries i [] = []
list_entries i (p ∷ ps) = record { id = i; meant = list (p ∷ ps) } ∷ []

abbrev pub table_entries : List (List Property) → List Entry
table_entries [] = []
table_entries (r ∷ rs) = record { id = recipients_id; meant = table (r ∷ rs) } ∷ []

-- The message's attributes by rising id, its rows, its properties.
abbrev pub message_entries : Message → List Entry
message_entries m =
    attribute_entries message_attributes m.own.attributes
    ++ (table_entries m.rows ++ list_entries message_properties_id m.own.properties)

-- An attachment's rendering, its attributes by rising id, its properties.
abbrev pub attachment_entries : Holding → List Entry
attachment_entries h =
    attribute_entries (rendering_attribute ∷ attachment_attributes) h.attributes ++ list_entries attachment_properties_id h.properties

unfoldable pub entries_in : Message → List Entry
entries_in m =
    record { id = version_id; meant = version }
    ∷ (record { id = code_page_id; meant = primary m.primary }
    ∷ (message_entries m ++ flat_map attachment_entries m.attachments))

-- The signature, the key 01 00, and the entries.
unfoldable pub written : Message → List ℕ
written m = (signature ++ 1 ∷ (0 ∷ [])) ++ flat_map write_entry (entries_in m)
