-- Edits and asks at small messages, so that a mistake in the definitions shows.
use Rattle.std.specs.Prelude.{◌≡◌, ℕ, List, [], ◌∷◌, ◌++◌, pos, negsuc, Ok}
use Rattle.source.specs.Outcome.{Outcome, ◌>>=◌, over, refused}
use Rattle.source.specs.declared.refusals.Reason.TheVariants.{Level, UnknownId, Misplaced, NotAdmitted, LeftOver, Missing}
use Rattle.attribute.specs.Table.{code_page_id, message_properties_id, rendering_id}
use Rattle.index.specs.Keys.{tag}
use Rattle.stream.specs.Messages.{Message}
use Rattle.stream.specs.Writing.{write_frame, written}
use Rattle.message.specs.declared.Target.TheVariants.{Message as to_message, Row as to_row, Attachment as to_attachment}
use Rattle.message.specs.Sameness.{keys_at}
use Rattle.message.specs.Examples.{smallest, bare, subject_id}
use Rattle.editing.specs.Edits.{Edit, put_attribute, put_property, drop_attribute, drop_property, add_row, add_attachment, remove_row, change}
use Rattle.editing.specs.Asks.{words, plain, number, attribute_asked, property_asked}

-- One edit after another.
unfoldable pub all_changed : List Edit → Message → Outcome Message
unfolding ◌>>=◌
all_changed [] m = Ok m
all_changed (e ∷ es) m = change e m >>= all_changed es

-- A message of nothing but its code page, 1252, after edits.
abbrev pub made : List Edit → Outcome Message
made es = all_changed es (bare 1252)

abbrev pub status_id : ℕ
status_id = 0x00068007

abbrev pub title_id : ℕ
title_id = 0x00018010

abbrev pub put_subject : Edit
put_subject = put_attribute to_message subject_id (0x41 ∷ (0x00 ∷ []))

-- The truth FF FF under the id 0x0002, with the padding AA 55; and -1 and 7 as numbers of two bytes under 0x0003.
abbrev pub truth_given : List ℕ
truth_given = 0x0B ∷ (0x00 ∷ (0x02 ∷ (0x00 ∷ (0xFF ∷ (0xFF ∷ (0xAA ∷ (0x55 ∷ [])))))))

abbrev pub minus_given : List ℕ
minus_given = 0x02 ∷ (0x00 ∷ (0x03 ∷ (0x00 ∷ (0xFF ∷ (0xFF ∷ (0x00 ∷ (0x00 ∷ [])))))))

abbrev pub seven_given : List ℕ
seven_given = 0x02 ∷ (0x00 ∷ (0x03 ∷ (0x00 ∷ (0x07 ∷ (0x00 ∷ (0x00 ∷ (0x00 ∷ [])))))))

-- A file of which nothing is said.
abbrev pub file_given : List ℕ
file_given = 0x01 ∷ (0x00 ∷ (0xFF ∷ (0xFF ∷ (0xFF ∷ (0xFF ∷ (0x00 ∷ (0x00 ∷ (0x00 ∷ (0x00 ∷ (0x00 ∷ (0x00 ∷ (0x00 ∷ (0x00 ∷ [])))))))))))))

pub record Worked : Type 0 where
  pub subject_asked : (made (put_subject ∷ []) >>= attribute_asked to_message subject_id) ≡ Ok (words (0x41 ∷ []))
  pub subject_written : over written (made (put_subject ∷ [])) ≡ Ok (smallest ++ write_frame 1 subject_id (0x41 ∷ (0x00 ∷ [])))
  pub subject_dropped : made (put_subject ∷ (drop_attribute to_message subject_id ∷ [])) ≡ Ok (bare 1252)
  -- The flags of a status are shown as other bits than those that stand in it.
  pub status_asked :
      (made (put_attribute to_message status_id (0x24 ∷ (0x00 ∷ (0x00 ∷ (0x00 ∷ [])))) ∷ []) >>= attribute_asked to_message status_id)
      ≡ Ok (number (pos 7))
  -- The code page is the message's own: it is put and asked, and never dropped.
  pub page_asked :
      (made (put_attribute to_message code_page_id (0xE9 ∷ (0xFD ∷ (0x00 ∷ (0x00 ∷ (0x07 ∷ (0x07 ∷ (0x07 ∷ (0x07 ∷ [])))))))) ∷ [])
      >>= attribute_asked to_message code_page_id)
      ≡ Ok (number (pos 65001))
  pub page_dropped : change (drop_attribute to_message code_page_id) (bare 1252) ≡ refused Misplaced 0
  -- A truth is 0 or 1, and its padding is of zeros.
  pub truth_asked : (made (put_property to_message truth_given ∷ []) >>= property_asked to_message (0x02 ∷ (0x00 ∷ [])) 0) ≡ Ok (number (pos 1))
  pub truth_written :
      over written (made (put_property to_message truth_given ∷ []))
      ≡ Ok (smallest ++ write_frame 1 message_properties_id (0x01 ∷ (0x00 ∷ (0x00 ∷ (0x00 ∷ (0x0B ∷ (0x00 ∷ (0x02 ∷ (0x00 ∷ (0x01 ∷ (0x00 ∷ (0x00 ∷ (0x00 ∷ [])))))))))))))
  pub truth_dropped : made (put_property to_message truth_given ∷ (drop_property to_message (0x02 ∷ (0x00 ∷ [])) ∷ [])) ≡ Ok (bare 1252)
  pub minus_asked : (made (put_property to_message minus_given ∷ []) >>= property_asked to_message (0x03 ∷ (0x00 ∷ [])) 0) ≡ Ok (number (negsuc 0))
  -- A property that is replaced keeps its place.
  pub replaced :
      over (λ m. keys_at m to_message) (made (put_property to_message minus_given ∷ (put_property to_message truth_given ∷ (put_property to_message seven_given ∷ []))))
      ≡ Ok (tag 3 ∷ (tag 2 ∷ []))
  -- Rows have properties, and no attributes.
  pub row_asked : (made (add_row ∷ (put_property (to_row 0) seven_given ∷ [])) >>= property_asked (to_row 0) (0x03 ∷ (0x00 ∷ [])) 0) ≡ Ok (number (pos 7))
  pub row_attribute : made (add_row ∷ (put_attribute (to_row 0) subject_id (0x41 ∷ (0x00 ∷ [])) ∷ [])) ≡ refused Level 0
  pub no_row : made (add_row ∷ (remove_row 0 ∷ (put_property (to_row 0) seven_given ∷ []))) ≡ refused Missing 0
  -- An attachment begins with its rendering, which is never dropped.
  pub title_asked :
      (made (add_attachment file_given ∷ (put_attribute (to_attachment 0) title_id (0x61 ∷ (0x00 ∷ [])) ∷ [])) >>= attribute_asked (to_attachment 0) title_id)
      ≡ Ok (words (0x61 ∷ []))
  pub rendering_asked : (made (add_attachment file_given ∷ []) >>= attribute_asked (to_attachment 0) rendering_id) ≡ Ok (plain file_given)
  pub rendering_dropped : made (add_attachment file_given ∷ (drop_attribute (to_attachment 0) rendering_id ∷ [])) ≡ refused Misplaced 0
  -- Other refusals.
  pub missing : change (drop_attribute to_message subject_id) (bare 1252) ≡ refused Missing 0
  pub misplaced : change (put_attribute to_message message_properties_id []) (bare 1252) ≡ refused Misplaced 0
  pub unknown : change (put_attribute to_message 0x00018005 (0x41 ∷ (0x00 ∷ []))) (bare 1252) ≡ refused UnknownId 0
  pub not_admitted : change (put_attribute to_message subject_id (0x41 ∷ [])) (bare 1252) ≡ refused NotAdmitted 0
  pub left_over : change (put_property to_message (truth_given ++ 0x00 ∷ [])) (bare 1252) ≡ refused LeftOver 8
