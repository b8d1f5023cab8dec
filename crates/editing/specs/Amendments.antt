-- An edit that passed its checks, part by part: what it makes of attributes, properties, rows and attachments.
use Rattle.std.specs.Prelude.{ℕ, List, [], ◌∷◌, ◌++◌, Some, None, Option}
use Rattle.contents.specs.Contents.{Contents}
use Rattle.index.specs.Keys.{Key}
use Rattle.property.specs.Lists.{Property}
use Rattle.stream.specs.Messages.{Message, Holding, or_default}
use Rattle.message.specs.declared.Target.{Target}
use Rattle.message.specs.declared.Target.TheVariants.{Message as to_message, Row as to_row, Attachment as to_attachment}
use Rattle.message.specs.Sameness.{nth}
use Rattle.editing.specs.Slots.{without_id, put_contents, put_in, without_key, change_nth, without_nth}
use Rattle.editing.specs.Edits.{bare_attachment}

-- To the attributes of a target.
pub data Slot : Type 0 where
  kept : Slot
  put : (id : ℕ) → Contents → Slot
  dropped : (id : ℕ) → Slot

abbrev pub slot_after : Slot → (ℕ → Option Contents) → (ℕ → Option Contents)
slot_after kept held = held
slot_after (put i c) held = put_contents held i c
slot_after (dropped i) held = without_id i held

-- To the properties of a target.
pub data Listing : Type 0 where
  same : Listing
  with_property : Property → Listing
  less_key : Key → Listing

abbrev pub list_after : Listing → List Property → List Property
list_after same ps = ps
list_after (with_property p) ps = put_in ps p
list_after (less_key k) ps = without_key k ps

-- To a target.
pub record Touch : Type 0 where
  pub slot : Slot
  pub listing : Listing

abbrev pub touched : Touch → Holding → Holding
touched t h = record { attributes = slot_after t.slot h.attributes; properties = list_after t.listing h.properties }

abbrev pub untouched : Touch
untouched = record { slot = kept; listing = same }

-- To the rows of a message.
pub data Rowing : Type 0 where
  as_they_are : Rowing
  row_added : Rowing
  row_removed : ℕ → Rowing
  row_changed : ℕ → Listing → Rowing

abbrev pub nth_list : List (List Property) → ℕ → List Property
nth_list rs r = or_default (nth rs r) []

abbrev pub rows_after : Rowing → List (List Property) → List (List Property)
rows_after as_they_are rs = rs
rows_after row_added rs = rs ++ [] ∷ []
rows_after (row_removed r) rs = without_nth rs r
rows_after (row_changed r l) rs = change_nth rs r (list_after l (nth_list rs r))

-- To the attachments of a message.
pub data Attaching : Type 0 where
  as_before : Attaching
  attachment_added : Contents → Attaching
  attachment_removed : ℕ → Attaching
  attachment_changed : ℕ → Touch → Attaching

abbrev pub change_at : List Holding → ℕ → Touch → Option Holding → List Holding
change_at hs k t None = hs
change_at hs k t (Some h) = change_nth hs k (touched t h)

abbrev pub attachments_after : Attaching → List Holding → List Holding
attachments_after as_before hs = hs
attachments_after (attachment_added c) hs = hs ++ bare_attachment c ∷ []
attachments_after (attachment_removed k) hs = without_nth hs k
attachments_after (attachment_changed k t) hs = change_at hs k t (nth hs k)

pub record Amendment : Type 0 where
  pub page : Option ℕ  -- a new primary number
  pub own : Touch
  pub rows : Rowing
  pub attachments : Attaching

abbrev pub amended : Amendment → Message → Message
amended a m = record {
  primary = or_default a.page m.primary;
  own = touched a.own m.own;
  rows = rows_after a.rows m.rows;
  attachments = attachments_after a.attachments m.attachments;
}

-- Nothing changed but a target.
abbrev pub to_target : Target → Touch → Amendment
to_target to_message t = record { page = None; own = t; rows = as_they_are; attachments = as_before }
to_target (to_row r) t = record { page = None; own = untouched; rows = row_changed r t.listing; attachments = as_before }
to_target (to_attachment k) t = record { page = None; own = untouched; rows = as_they_are; attachments = attachment_changed k t }

-- Nothing changed but the primary number, the number of rows, or the number of attachments.
abbrev pub to_page : ℕ → Amendment
to_page n = record { page = Some n; own = untouched; rows = as_they_are; attachments = as_before }

abbrev pub to_rows : Rowing → Amendment
to_rows r = record { page = None; own = untouched; rows = r; attachments = as_before }

abbrev pub to_attachments : Attaching → Amendment
to_attachments a = record { page = None; own = untouched; rows = as_they_are; attachments = a }
