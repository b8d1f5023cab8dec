use Rattle.std.specs.Prelude.{◌≡◌, ℕ, ◌<◌, Bool, true, false, cond, ◌&&◌, ◌||◌, ◌⊎◌, List, [], ◌∷◌, ◌++◌, length, get_or, Some, None, Option, ◌==◌, nat_lt, slice_index_or}
use Rattle.attribute.specs.declared.Attribute.{Attribute}
use Rattle.attribute.specs.declared.Rule.{Rule}
use Rattle.attribute.specs.declared.Rule.TheVariants.{Text, Class, Date, Digits, Status, Priority, YesNo, Raw, Rendering, Version, CodePage, Recipients, Properties}

abbrev pub attribute : ℕ → ℕ → Rule → Attribute
attribute i l r = record { id = i; level = l; rule = r }

abbrev pub rendering_id : ℕ
rendering_id = 0x00069002

abbrev pub message_properties_id : ℕ
message_properties_id = 0x00069003

abbrev pub recipients_id : ℕ
recipients_id = 0x00069004

abbrev pub attachment_properties_id : ℕ
attachment_properties_id = 0x00069005

abbrev pub code_page_id : ℕ
code_page_id = 0x00069007

abbrev pub version_id : ℕ
version_id = 0x00089006

-- The attributes of a message, by rising id.
abbrev pub message_attributes : List Attribute
message_attributes =
    attribute 0x00008000 1 Raw  -- attFrom
    ∷ (attribute 0x00018004 1 Text  -- attSubject
    ∷ (attribute 0x00018009 1 Digits  -- attMessageID
    ∷ (attribute 0x0002800C 1 Text  -- attBody
    ∷ (attribute 0x00030006 1 Date  -- attDateStart
    ∷ (attribute 0x00030007 1 Date  -- attDateEnd
    ∷ (attribute 0x00038005 1 Date  -- attDateSent
    ∷ (attribute 0x00038006 1 Date  -- attDateRecd
    ∷ (attribute 0x00038020 1 Date  -- attDateModified
    ∷ (attribute 0x00040009 1 YesNo  -- attRequestRes
    ∷ (attribute 0x0004800D 1 Priority  -- attPriority
    ∷ (attribute 0x00050008 1 Raw  -- attAidOwner
    ∷ (attribute 0x00060000 1 Raw  -- attOwner
    ∷ (attribute 0x00060001 1 Raw  -- attSentFor
    ∷ (attribute 0x00060200 1 Raw  -- attDelegate
    ∷ (attribute 0x00068007 1 Status  -- attMessageStatus
    ∷ (attribute 0x00070600 1 Class  -- attOriginalMessageClass
    ∷ (attribute 0x00078008 1 Class  -- attMessageClass
    ∷ [])))))))))))))))))

-- The attributes of an attachment, by rising id, but for its rendering, which begins it.
abbrev pub attachment_attributes : List Attribute
attachment_attributes =
    attribute 0x00018010 2 Text  -- attAttachTitle
    ∷ (attribute 0x00038012 2 Date  -- attAttachCreateDate
    ∷ (attribute 0x00038013 2 Date  -- attAttachModifyDate
    ∷ (attribute 0x0006800F 2 Raw  -- attAttachData
    ∷ (attribute 0x00068011 2 Raw  -- attAttachMetaFile
    ∷ (attribute 0x00069001 2 Text  -- attAttachTransportFilename
    ∷ [])))))

abbrev pub rendering_attribute : Attribute
rendering_attribute = attribute rendering_id 2 Rendering

-- The attributes that have a part of their own in a stream.
abbrev pub own_attributes : List Attribute
own_attributes =
    rendering_attribute  -- attAttachRendData
    ∷ (attribute message_properties_id 1 Properties  -- attMsgProps
    ∷ (attribute recipients_id 1 Recipients  -- attRecipTable
    ∷ (attribute attachment_properties_id 2 Properties  -- attAttachment
    ∷ (attribute code_page_id 1 CodePage  -- attOemCodepage
    ∷ (attribute version_id 1 Version  -- attTnefVersion
    ∷ [])))))

abbrev pub attributes : List Attribute
attributes = message_attributes ++ (attachment_attributes ++ own_attributes)

abbrev pub find : List Attribute → ℕ → Option Attribute
find [] i = None
find (a ∷ rest) i = cond (a.id == i) (Some a) (find rest i)

unfoldable pub attribute_of : ℕ → Option Attribute
attribute_of i = find attributes i

-- The rules of the table, as tests over the whole of it.
abbrev pub has_id : ℕ → List Attribute → Bool
has_id i [] = false
has_id i (a ∷ rest) = a.id == i || has_id i rest

abbrev pub ids_apart : List Attribute → Bool
ids_apart [] = true
ids_apart (a ∷ rest) = cond (has_id a.id rest) false (ids_apart rest)

abbrev pub ids_above : ℕ → List Attribute → Bool
ids_above i [] = true
ids_above i (a ∷ rest) = nat_lt i a.id && ids_above a.id rest

abbrev pub levels_right : List Attribute → Bool
levels_right [] = true
levels_right (a ∷ rest) = (a.level == 1 || a.level == 2) && levels_right rest

-- No id stands twice; the ids of a message's and of an attachment's attributes rise, and stand at level 1 and 2.
pub record Sound : Type 0 where
  pub apart : (i j : ℕ) (d : Attribute) → i < length attributes → j < length attributes → (get_or attributes i d).id ≡ (get_or attributes j d).id → i ≡ j
  pub found : (i : ℕ) (d : Attribute) → i < length attributes → attribute_of (get_or attributes i d).id ≡ Some (slice_index_or attributes i d)
  pub levels : (i : ℕ) (d : Attribute) → i < length attributes → ((get_or attributes i d).level ≡ 1) ⊎ ((get_or attributes i d).level ≡ 2)
  pub message_rises : (i j : ℕ) (d : Attribute) → i < j → j < length message_attributes → (get_or message_attributes i d).id < (get_or message_attributes j d).id
  pub attachment_rises : (i j : ℕ) (d : Attribute) → i < j → j < length attachment_attributes → (get_or attachment_attributes i d).id < (get_or attachment_attributes j d).id
