-- Targets of a message, and which attributes a call may name for them.
use Rattle.std.specs.Prelude.{ℕ, Bool, true, false, List, Ok, Option, ◌==◌}
use Rattle.source.specs.Outcome.{Outcome, ◌>>=◌, ◌>>◌, need, given}
use Rattle.source.specs.declared.refusals.Reason.TheVariants.{Level, UnknownId, Misplaced}
use Rattle.attribute.specs.Table.{attribute_of}
use Rattle.attribute.specs.declared.Attribute.{Attribute}
use Rattle.attribute.specs.declared.Rule.{Rule}
use Rattle.attribute.specs.declared.Rule.TheVariants as rule
use Rattle.contents.specs.Contents.{Contents}
use Rattle.property.specs.Lists.{Property}
use Rattle.stream.specs.Messages.{Message, Holding}
use Rattle.message.specs.declared.Target.{Target}
use Rattle.message.specs.declared.Target.TheVariants.{Message as to_message, Row as to_row, Attachment as to_attachment}
use Rattle.editing.specs.Slots.{change_nth}

abbrev pub with_holding : Message → Target → Holding → Message
with_holding m to_message h = record { primary = m.primary; own = h; rows = m.rows; attachments = m.attachments }
with_holding m (to_row r) h =
    record { primary = m.primary; own = m.own; rows = change_nth m.rows r h.properties; attachments = m.attachments }
with_holding m (to_attachment k) h =
    record { primary = m.primary; own = m.own; rows = m.rows; attachments = change_nth m.attachments k h }

abbrev pub with_attributes : Holding → (ℕ → Option Contents) → Holding
with_attributes h held = record { attributes = held; properties = h.properties }

abbrev pub with_properties : Holding → List Property → Holding
with_properties h ps = record { attributes = h.attributes; properties = ps }

-- The level of the attributes that a target may have; a row has none.
abbrev pub target_level : Target → ℕ
target_level to_message = 1
target_level (to_row r) = 0
target_level (to_attachment k) = 2

-- How an attribute may be used in a draft.
pub data Use : Type 0 where
  free : Use
  fixed : Use  -- put and asked, never dropped
  hidden : Use

abbrev pub use_of : Rule → Use
use_of rule.Text = free
use_of rule.Class = free
use_of rule.Date = free
use_of rule.Digits = free
use_of rule.Status = free
use_of rule.Priority = free
use_of rule.YesNo = free
use_of rule.Raw = free
use_of rule.Rendering = fixed
use_of rule.Version = hidden
use_of rule.CodePage = fixed
use_of rule.Recipients = hidden
use_of rule.Properties = hidden

abbrev pub may_put : Use → Bool
may_put free = true
may_put fixed = true
may_put hidden = false

abbrev pub may_drop : Use → Bool
may_drop free = true
may_drop fixed = false
may_drop hidden = false

-- The attribute of an id that a call names for a target: known, of the target's level, and one that the call may name.
unfoldable pub attribute_for : Target → ℕ → (Use → Bool) → Outcome Attribute
unfolding ◌>>=◌ ◌>>◌
attribute_for t i may = do
  a ← given (attribute_of i) UnknownId 0
  need (a.level == target_level t) Level 0
  need (may (use_of a.rule)) Misplaced 0
  Ok a
