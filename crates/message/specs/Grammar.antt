-- The format, said of the bytes: which bytes are a number, a key, a property, a list, a frame, a stream.
use Rattle.std.specs.Prelude.{◌≡◌, ℕ, ◌-◌, ◌<◌, ◌≤◌, Bool, true, false, ◌⊎◌, ◌↔◌, List, [], ◌∷◌, ◌++◌, map, length, Some, None, Option}
use Rattle.std.specs.List.{flat_map, AllByRecursion}
use Rattle.source.specs.Bytes.{val}
use Rattle.scan.specs.Texts.{is_text16}
use Rattle.scan.specs.Scans.{checksum}
use Rattle.attribute.specs.Table.{attribute_of}
use Rattle.attribute.specs.declared.Attribute.{Attribute}
use Rattle.attribute.specs.declared.Rule.{Rule}
use Rattle.frame.specs.Frames.{signature, is_class}
use Rattle.frame.specs.Stages.{Role, opens, names_page, of_message, begins_attachment, of_attachment, role, attachment_limit}
use Rattle.contents.specs.Contents.{Contents, means, primary_number}
use Rattle.index.specs.Keys.{Key, tag, numbered, named}
use Rattle.index.specs.Limits.{name_limit}
use Rattle.property.specs.declared.kinds.Kind.{Kind}
use Rattle.property.specs.declared.kinds.Shape.{Shape}
use Rattle.property.specs.Fields.{padded}
use Rattle.property.specs.Kinds.{Value, value, admits, width, shape_of}
use Rattle.property.specs.Lists.{Property, list_limit, row_limit, indexed}
use Rattle.property.specs.Names.{first_named}
use Rattle.stream.specs.Reading.{Meant, version, primary, contents, list, table, Nature, plain, opening, page, rows, properties, nature}
use Rattle.stream.specs.Messages.{Message, Holding, or_default}
use Rattle.message.specs.Sameness.{Carries}

infixr 30 ◌▷◌
-- Bytes of one kind, and behind them bytes of another.
pub record ◌▷◌ (P Q : List ℕ → Type 0) (bs : List ℕ) : Type 0 where
  pub front : List ℕ
  pub back : List ℕ
  pub joins : bs ≡ front ++ back
  pub one : P front
  pub other : Q back

-- Just these bytes.
abbrev pub these : List ℕ → List ℕ → Type 0
these xs bs = bs ≡ xs

-- Any n bytes.
abbrev pub any : ℕ → List ℕ → Type 0
any n bs = length bs ≡ n

-- A number of w bytes, the lowest first.
abbrev pub number : (w n : ℕ) → List ℕ → Type 0
number w n bs = (length bs ≡ w) × (val bs ≡ n)

-- Bytes with their padding, which may be any bytes.
abbrev pub filling : List ℕ → List ℕ → Type 0
filling s = these s ▷ any (padded (length s) - length s)

-- Bytes behind their size, with their padding.
abbrev pub sizing : List ℕ → List ℕ → Type 0
sizing s = number 4 (length s) ▷ filling s

-- One behind another.
abbrev pub run : {A : Type 0} → (A → List ℕ → Type 0) → List A → List ℕ → Type 0
run G [] = these []
run G (a ∷ as') = G a ▷ run G as'

-- A key: an id below 0x8000; or any number from there on, a GUID, and 0 and a number, or 1 and a string.
abbrev pub key_bytes : Key → List ℕ → Type 0
key_bytes (tag i) bs = (i < first_named) × number 2 i bs
key_bytes (numbered g n) bs = (i : ℕ) × (first_named ≤ i) × (length g ≡ 16) × (number 2 i ▷ these g ▷ number 4 0 ▷ number 4 n) bs
key_bytes (named g s) bs =
    (i : ℕ) × (first_named ≤ i) × (length g ≡ 16) × (length s ≤ name_limit) × (is_text16 s ≡ true)
    × (number 2 i ▷ these g ▷ number 4 1 ▷ sizing s) bs

-- A value of w bytes, and one behind its size.
abbrev pub fixed_bytes : Kind → ℕ → Value → List ℕ → Type 0
fixed_bytes k w v bs = (s : List ℕ) × (length s ≡ w) × (v ≡ value k s) × filling s bs

abbrev pub sized_bytes : Kind → Value → List ℕ → Type 0
sized_bytes k v bs = (s : List ℕ) × (admits k s ≡ true) × (v ≡ value k s) × sizing s bs

-- How many values stand behind their sizes: one under a type of one value, at least one under a type of several.
abbrev pub Many : Bool → ℕ → Type 0
Many true n = 1 ≤ n
Many false n = n ≡ 1

abbrev pub values_bytes : Option ℕ → Kind → Bool → List Value → List ℕ → Type 0
values_bytes (Some w) k false vs bs = (length vs ≡ 1) × run (fixed_bytes k w) vs bs
values_bytes (Some w) k true vs bs = (number 4 (length vs) ▷ run (fixed_bytes k w) vs) bs
values_bytes None k several vs bs = Many several (length vs) × (number 4 (length vs) ▷ run (sized_bytes k) vs) bs

-- A type that is known, a key, the values.
abbrev pub property_bytes : Property → List ℕ → Type 0
property_bytes p bs =
    (t : Shape) × (shape_of p.type ≡ Some t)
    × (number 2 p.type ▷ key_bytes p.key ▷ values_bytes (width t.kind) t.kind t.several p.values) bs

-- A count and so many properties; a count and so many lists.
abbrev pub list_bytes : List Property → List ℕ → Type 0
list_bytes ps bs = (length ps ≤ list_limit) × (number 4 (length ps) ▷ run property_bytes ps) bs

abbrev pub table_bytes : List (List Property) → List ℕ → Type 0
table_bytes rs bs = (length rs ≤ row_limit) × (number 4 (length rs) ▷ run list_bytes rs) bs

-- What data mean, by what they are.
abbrev pub DataMean : Nature → Rule → List ℕ → Meant → Type 0
DataMean plain r ds m = (c : Contents) × (means r ds ≡ Some c) × (m ≡ contents c)
DataMean opening r ds m = (c : Contents) × (means r ds ≡ Some c) × (m ≡ version)
DataMean page r ds m = (c : Contents) × (means r ds ≡ Some c) × (m ≡ primary (primary_number c))
DataMean rows r ds m = (rs : List (List Property)) × table_bytes rs ds × (m ≡ table rs)
DataMean properties r ds m = (ps : List Property) × list_bytes ps ds × (m ≡ list ps)

-- A frame as it is laid in a stream, with what its data mean.
pub record Laid : Type 0 where
  pub attribute : Attribute
  pub bytes : List ℕ
  pub sum : ℕ
  pub meant : Meant

-- Its level, its id, the length of its data, the data, and their checksum.
abbrev pub frame_bytes : Laid → List ℕ → Type 0
frame_bytes f =
    these (f.attribute.level ∷ []) ▷ number 4 f.attribute.id ▷ number 4 (length f.bytes) ▷ these f.bytes ▷ number 2 f.sum

-- The attribute is one of the table, the length has no sign, the checksum is right but for classes, and the data are admitted.
pub record Right (f : Laid) : Type 0 where
  pub known : attribute_of f.attribute.id ≡ Some f.attribute
  pub short : length f.bytes < 0x80000000
  pub sum_right : is_class f.attribute.rule ≡ false → f.sum ≡ checksum f.bytes
  pub admitted : DataMean (nature f.attribute.rule) f.attribute.rule f.bytes f.meant

-- A frame is of a role: the version, the code page, the message's, a rendering, an attachment's.
abbrev pub Is : Role → Laid → Type 0
Is r f = role f.attribute ≡ r

-- A rendering and the frames of its attachment behind it.
pub record Attached : Type 0 where
  pub rendering : Laid
  pub rest : List Laid

abbrev pub attached : Attached → List Laid
attached a = a.rendering ∷ a.rest

abbrev pub Begun : Attached → Type 0
Begun a = Is begins_attachment a.rendering × AllByRecursion (Is of_attachment) a.rest

-- The version, the code page, frames of the message, and the attachments, of which there are at most 256.
pub record InOrder (fs : List Laid) : Type 0 where
  pub opening : Laid
  pub page : Laid
  pub own : List Laid
  pub attachments : List Attached
  pub laid : fs ≡ opening ∷ (page ∷ (own ++ flat_map attached attachments))
  pub opening_is : Is opens opening
  pub page_is : Is names_page page
  pub own_are : AllByRecursion (Is of_message) own
  pub attachments_are : AllByRecursion Begun attachments
  pub few : length attachments ≤ attachment_limit

-- The earliest frame of a kind.
abbrev pub Earliest : (Laid → Type 0) → List Laid → Laid → Type 0
Earliest P [] f = ⊥
Earliest P (g ∷ gs) f = (P g × (f ≡ g)) ⊎ ((P g → ⊥) × Earliest P gs f)

-- What the earliest frame of a kind means; nothing where there is none.
abbrev pub Told : {A : Type 0} → (Laid → Type 0) → (A → Meant) → List Laid → Option A → Type 0
Told P as-meant fs (Some a) = (f : Laid) × Earliest P fs f × (f.meant ≡ as-meant a)
Told P as-meant fs None = AllByRecursion (λ f. P f → ⊥) fs

-- Frames of contents with an id, and frames of a nature.
abbrev pub WithId : ℕ → Laid → Type 0
WithId i f = (f.attribute.id ≡ i) × (nature f.attribute.rule ≡ plain)

abbrev pub OfNature : Nature → Laid → Type 0
OfNature n f = nature f.attribute.rule ≡ n

-- What frames tell of their target: contents by the earliest frame of each id, and properties by the earliest list, in which
-- the earliest property of each key counts.
pub record Holds (fs : List Laid) (h : Holding) : Type 0 where
  pub by_id : (i : ℕ) → Told (WithId i) contents fs (h.attributes i)
  pub listed : Option (List Property)
  pub listed_told : Told (OfNature properties) list fs listed
  pub properties_are : h.properties ≡ indexed (or_default listed [])

-- One of each, side by side.
abbrev pub Each : {A B : Type 0} → (A → B → Type 0) → List A → List B → Type 0
Each R [] [] = Unit {0}
Each R [] (b ∷ bs) = ⊥
Each R (a ∷ ls) [] = ⊥
Each R (a ∷ ls) (b ∷ bs) = R a b × Each R ls bs

-- What frames in order tell: the primary number, the message, its rows by the earliest table, and each attachment.
pub record Tells (fs : List Laid) (o : InOrder fs) (m : Message) : Type 0 where
  pub primary_is : o.page.meant ≡ primary m.primary
  pub own_holds : Holds o.own m.own
  pub rowed : Option (List (List Property))
  pub rowed_told : Told (OfNature rows) table o.own rowed
  pub rows_are : m.rows ≡ map indexed (or_default rowed [])
  pub attachments_hold : Each (λ a h. Holds (attached a) h) o.attachments m.attachments

-- A stream that carries m: the signature, a key of two bytes, and frames that are right, in order, and tell m.
pub record Stream (xs : List ℕ) (m : Message) : Type 0 where
  pub frames : List Laid
  pub bytes : (these signature ▷ any 2 ▷ run frame_bytes frames) xs
  pub right : AllByRecursion Right frames
  pub order : InOrder frames
  pub tells : Tells frames order m

-- Streams are read exactly where the grammar tells them.
abbrev pub ByGrammar : Type 0
ByGrammar = (xs : List ℕ) (m : Message) → Carries xs m ↔ Stream xs m
