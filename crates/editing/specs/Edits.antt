-- What an edit makes of a message, in the order of its checks: target, input, key, limit.
use Rattle.std.specs.Prelude.{ℕ, ◌||◌, List, [], ◌∷◌, ◌++◌, length, None, Ok, nat_le, nat_lt}
use Rattle.source.specs.Content.{source_limit}
use Rattle.source.specs.Outcome.{Outcome, ◌>>=◌, ◌>>◌, need, given}
use Rattle.source.specs.declared.refusals.Reason.TheVariants.{SourceTooLong, NotAdmitted, Limit, Missing}
use Rattle.attribute.specs.Table.{rendering_id}
use Rattle.attribute.specs.declared.Attribute.{Attribute}
use Rattle.attribute.specs.declared.Rule.{Rule}
use Rattle.attribute.specs.declared.Rule.TheVariants as rule
use Rattle.frame.specs.Stages.{attachment_limit}
use Rattle.contents.specs.Contents.{Contents, means, primary_number}
use Rattle.index.specs.Keys.{Key}
use Rattle.property.specs.Lists.{Property, list_limit, row_limit}
use Rattle.property.specs.Lists as lists
use Rattle.property.specs.Names as names
use Rattle.stream.specs.Messages.{Message, Holding}
use Rattle.message.specs.declared.Target.{Target}
use Rattle.message.specs.Sameness.{nth, holding}
use Rattle.editing.specs.Slots.{without_id, put_contents, has_key, put_in, without_key, without_nth}
use Rattle.editing.specs.Targets.{with_holding, with_attributes, with_properties, may_put, may_drop, attribute_for}

pub data Edit : Type 0 where
  put_attribute : Target → (id : ℕ) → List ℕ → Edit
  put_property : Target → List ℕ → Edit
  drop_attribute : Target → (id : ℕ) → Edit
  drop_property : Target → List ℕ → Edit
  add_row : Edit
  add_attachment : List ℕ → Edit
  remove_row : ℕ → Edit
  remove_attachment : ℕ → Edit

-- The bytes that a call is given are held as a source, which has a bound.
unfoldable pub held : List ℕ → Outcome (List ℕ)
unfolding ◌>>◌
held xs = do
  need (nat_le (length xs) source_limit) SourceTooLong 0
  Ok xs

-- The contents of given bytes under a rule; one property; the id and name of one.
unfoldable pub given_contents : Rule → List ℕ → Outcome Contents
unfolding ◌>>=◌
given_contents r xs = do
  ys ← held xs
  given (means r ys) NotAdmitted 0

unfoldable pub given_property : List ℕ → Outcome Property
unfolding ◌>>=◌
given_property xs = do
  ys ← held xs
  lists.one_property ys 0 (length ys)

unfoldable pub given_key : List ℕ → Outcome Key
unfolding ◌>>=◌
given_key xs = do
  ys ← held xs
  names.one_key ys 0 (length ys)

abbrev pub set_primary : Message → ℕ → Message
set_primary m n = record { primary = n; own = m.own; rows = m.rows; attachments = m.attachments }

-- The primary number is the message's own; all other contents are held by their target.
abbrev pub put_meaning : Message → Target → Attribute → Contents → Holding → Rule → Message
put_meaning m t a c h rule.CodePage = set_primary m (primary_number c)
put_meaning m t a c h rule.Text = with_holding m t (with_attributes h (put_contents h.attributes a.id c))
put_meaning m t a c h rule.Class = with_holding m t (with_attributes h (put_contents h.attributes a.id c))
put_meaning m t a c h rule.Date = with_holding m t (with_attributes h (put_contents h.attributes a.id c))
put_meaning m t a c h rule.Digits = with_holding m t (with_attributes h (put_contents h.attributes a.id c))
put_meaning m t a c h rule.Status = with_holding m t (with_attributes h (put_contents h.attributes a.id c))
put_meaning m t a c h rule.Priority = with_holding m t (with_attributes h (put_contents h.attributes a.id c))
put_meaning m t a c h rule.YesNo = with_holding m t (with_attributes h (put_contents h.attributes a.id c))
put_meaning m t a c h rule.Raw = with_holding m t (with_attributes h (put_contents h.attributes a.id c))
put_meaning m t a c h rule.Rendering = with_holding m t (with_attributes h (put_contents h.attributes a.id c))
put_meaning m t a c h rule.Version = with_holding m t (with_attributes h (put_contents h.attributes a.id c))
put_meaning m t a c h rule.Recipients = with_holding m t (with_attributes h (put_contents h.attributes a.id c))
put_meaning m t a c h rule.Properties = with_holding m t (with_attributes h (put_contents h.attributes a.id c))

-- An attachment of nothing but its rendering.
abbrev pub bare_attachment : Contents → Holding
bare_attachment c = record { attributes = put_contents (λ i. None) rendering_id c; properties = [] }

unfoldable pub change : Edit → Message → Outcome Message
unfolding ◌>>=◌ ◌>>◌
change (put_attribute t i xs) m = do
  h ← given (holding m t) Missing 0
  a ← attribute_for t i may_put
  c ← given_contents a.rule xs
  Ok (put_meaning m t a c h a.rule)
change (put_property t xs) m = do
  h ← given (holding m t) Missing 0
  p ← given_property xs
  need (has_key p.key h.properties || nat_lt (length h.properties) list_limit) Limit 0
  Ok (with_holding m t (with_properties h (put_in h.properties p)))
change (drop_attribute t i) m = do
  h ← given (holding m t) Missing 0
  a ← attribute_for t i may_drop
  c ← given (h.attributes i) Missing 0
  Ok (with_holding m t (with_attributes h (without_id i h.attributes)))
change (drop_property t xs) m = do
  h ← given (holding m t) Missing 0
  k ← given_key xs
  need (has_key k h.properties) Missing 0
  Ok (with_holding m t (with_properties h (without_key k h.properties)))
change add_row m = do
  need (nat_lt (length m.rows) row_limit) Limit 0
  Ok (record { primary = m.primary; own = m.own; rows = m.rows ++ [] ∷ []; attachments = m.attachments })
change (add_attachment xs) m = do
  c ← given_contents rule.Rendering xs
  need (nat_lt (length m.attachments) attachment_limit) Limit 0
  Ok (record { primary = m.primary; own = m.own; rows = m.rows; attachments = m.attachments ++ bare_attachment c ∷ [] })
change (remove_row r) m = do
  ps ← given (nth m.rows r) Missing 0
  Ok (record { primary = m.primary; own = m.own; rows = without_nth m.rows r; attachments = m.attachments })
change (remove_attachment k) m = do
  h ← given (nth m.attachments k) Missing 0
  Ok (record { primary = m.primary; own = m.own; rows = m.rows; attachments = without_nth m.attachments k })
