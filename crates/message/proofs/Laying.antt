-- The entries of a well-formed message, laid as frames, are a stream.
use Rattle.std.proofs.Common.{◌≡◌, ℕ, ◌+◌, ◌^◌, ◌<◌, ◌≤◌, true, false, eqb, List, [], ◌∷◌, ◌++◌, map, length, Some, None, Ok, Option, sym, refl, ap, ◌∙◌, arith}
use Rattle.std.specs.List.{flat_map, AllByRecursion}
use Rattle.std.proofs.lemmas.List.{append_assoc, length-append}
use Rattle.std.proofs.lemmas.Bool.{lt-ltb}
use Rattle.std.proofs.ByRecursion.{All-append}
use Rattle.source.specs.Bytes.{Octets, le}
use Rattle.scan.specs.Scans.{checksum}
use Rattle.attribute.specs.Table.{attribute_of, has_id, message_attributes, attachment_attributes, rendering_attribute, rendering_id, message_properties_id, attachment_properties_id, recipients_id, code_page_id, version_id}
use Rattle.attribute.specs.declared.Attribute.{Attribute}
use Rattle.frame.specs.Stages.{Role, of_message, begins_attachment, of_attachment, role, next_stage, may_end, attachment_limit}
use Rattle.frame.specs.declared.stages.Stage.{Stage}
use Rattle.frame.specs.declared.stages.Stage.TheVariants as stage
use Rattle.contents.specs.Contents.{Contents, means, normal, code_page}
use Rattle.scan.proofs.Numbers.{length_le, val_le}
use Rattle.property.specs.Lists.{Property, row_limit}
use Rattle.property.specs.Writing.{write_list, write_table}
use Rattle.stream.specs.Reading.{Meant, version, primary, contents, list, table, Entry, plain, nature}
use Rattle.stream.specs.Messages.{Message, Holding}
use Rattle.stream.specs.Writing.{entry_data, write_entry, found, attribute_entries, list_entries, table_entries, message_entries, attachment_entries, entries_in}
use Rattle.message.specs.Grammar.{run, DataMean, Laid, frame_bytes, Right, list_bytes, table_bytes}
use Rattle.message.proofs.Pieces.{octets_le}
use Rattle.message.proofs.Rewrites.{ToldBy, list_turns, table_turns, table_from}
use Rattle.message.proofs.Indexing.{WellList}
use Rattle.message.proofs.NormalData.{page_normal, page_octets}
use Rattle.message.proofs.FrameReads.{entry, Allowed, id_of}

-- An entry that can be laid as a frame.
pub record Fits (a : Attribute) (e : Entry) : Type 0 where
  pub known : attribute_of e.id ≡ Some a
  pub level_small : a.level < 256
  pub id_small : e.id < 256 ^ 4
  pub data_small : length (entry_data e.meant) < 0x80000000
  pub again : DataMean (nature a.rule) a.rule (entry_data e.meant) e.meant
  pub octets : Octets (entry_data e.meant)

abbrev laid_of : Attribute → Entry → Laid
laid_of a e = record { attribute = a; bytes = entry_data e.meant; sum = checksum (entry_data e.meant); meant = e.meant }

right_of : (a : Attribute) (e : Entry) → Fits a e → Right (laid_of a e)
right_of a e f = record {
  known = ap attribute_of (id_of e.id a f.known) ∙ f.known;
  short = f.data_small;
  sum_right = λ no'. refl;
  admitted = f.again;
}

entry_is : (a : Attribute) (e : Entry) → Fits a e → entry (laid_of a e) ≡ e
entry_is a e f = ap (λ i. record { id = i; meant = e.meant }) (id_of e.id a f.known)

bytes_of : (a : Attribute) (e : Entry) → Fits a e → frame_bytes (laid_of a e) (write_entry e) × Octets (write_entry e)
unfolding write_entry
bytes_of a e f =
    let ds = entry_data e.meant in
    let id : a.id ≡ e.id = id_of e.id a f.known in
    let small : length ds < 0x80000000 = f.data_small in
    let sum = le 2 (checksum ds) in
    let size = le 4 (length ds) in
    rw f.known (
      record {
        front = a.level ∷ [];
        back = le 4 e.id ++ (size ++ (ds ++ sum));
        joins = refl;
        one = refl;
        other = record {
          front = le 4 e.id;
          back = size ++ (ds ++ sum);
          joins = refl;
          one = (length_le 4 e.id, val_le 4 e.id f.id_small ∙ sym id);
          other = record {
            front = size;
            back = ds ++ sum;
            joins = refl;
            one = (length_le 4 (length ds), val_le 4 (length ds) (omega arith));
            other = record { front = ds; back = sum; joins = refl; one = refl; other = (length_le 2 (checksum ds), val_le 2 (checksum ds) (omega arith)) };
          };
        };
      },
      (f.level_small, All-append _ (le 4 e.id) _ (octets_le 4 e.id) (All-append _ size _ (octets_le 4 (length ds)) (All-append _ ds sum f.octets (octets_le 2 (checksum ds))))),
    )

-- Entries in an order in which they can be laid, from a stage on.
abbrev pub Good : Stage → List Entry → Type 0
Good s [] = may_end s ≡ true
Good s (e ∷ es) = (a : Attribute) × (t : Stage) × Fits a e × ((p : ℕ) → next_stage s (role a) p ≡ Ok t) × Good t es

pub record LaidAs (s : Stage) (es : List Entry) (bs : List ℕ) : Type 0 where
  pub frames : List Laid
  pub tells : map entry frames ≡ es
  pub right : AllByRecursion Right frames
  pub allowed : Allowed s frames
  pub bytes : run frame_bytes frames bs
  pub octets : Octets bs

pub good_laid : (es : List Entry) (s : Stage) → Good s es → LaidAs s es (flat_map write_entry es)
good_laid [] s g = record { frames = []; tells = refl; right = tt; allowed = g; bytes = refl; octets = tt }
good_laid (e ∷ es) s (a, t, f, go, g) =
    let l : LaidAs t es (flat_map write_entry es) = good_laid es t g in
    let (b, o) = bytes_of a e f in
    record {
      frames = laid_of a e ∷ l.frames;
      tells = ap (λ x. x ∷ map entry l.frames) (entry_is a e f) ∙ ap (λ x. e ∷ x) l.tells;
      right = (right_of a e f, l.right);
      allowed = (t, go, l.allowed);
      bytes = record { front = write_entry e; back = flat_map write_entry es; joins = refl; one = b; other = l.bytes };
      octets = All-append _ (write_entry e) _ o l.octets;
    }

-- Where an attribute stands.
abbrev pub Placed : Role → Attribute → Type 0
Placed r a = (attribute_of a.id ≡ Some a) × (a.id < 256 ^ 4) × (role a ≡ r) × (nature a.rule ≡ plain) × (eqb a.id rendering_id ≡ false) × (a.level < 256)

pub message_places : AllByRecursion (Placed of_message) message_attributes
unfolding attribute_of
message_places = ((refl, omega arith, refl, refl, refl, omega arith), ((refl, omega arith, refl, refl, refl, omega arith), ((refl, omega arith, refl, refl, refl, omega arith), ((refl, omega arith, refl, refl, refl, omega arith), ((refl, omega arith, refl, refl, refl, omega arith), ((refl, omega arith, refl, refl, refl, omega arith), ((refl, omega arith, refl, refl, refl, omega arith), ((refl, omega arith, refl, refl, refl, omega arith), ((refl, omega arith, refl, refl, refl, omega arith), ((refl, omega arith, refl, refl, refl, omega arith), ((refl, omega arith, refl, refl, refl, omega arith), ((refl, omega arith, refl, refl, refl, omega arith), ((refl, omega arith, refl, refl, refl, omega arith), ((refl, omega arith, refl, refl, refl, omega arith), ((refl, omega arith, refl, refl, refl, omega arith), ((refl, omega arith, refl, refl, refl, omega arith), ((refl, omega arith, refl, refl, refl, omega arith), ((refl, omega arith, refl, refl, refl, omega arith), tt))))))))))))))))))

pub attachment_places : AllByRecursion (Placed of_attachment) attachment_attributes
unfolding attribute_of
attachment_places = ((refl, omega arith, refl, refl, refl, omega arith), ((refl, omega arith, refl, refl, refl, omega arith), ((refl, omega arith, refl, refl, refl, omega arith), ((refl, omega arith, refl, refl, refl, omega arith), ((refl, omega arith, refl, refl, refl, omega arith), ((refl, omega arith, refl, refl, refl, omega arith), tt))))))

-- What a holding may be.
pub record Meets (a : Attribute) (c : Contents) : Type 0 where
  pub again : means a.rule (normal c) ≡ Some c
  pub small : length (normal c) < 0x80000000
  pub octets : Octets (normal c)

abbrev pub Known : List Attribute → (ℕ → Option Contents) → Type 0
Known ls held = (i : ℕ) (c : Contents) → held i ≡ Some c → (a : Attribute) × (attribute_of i ≡ Some a) × (has_id i ls ≡ true) × Meets a c

pub record WellHolding (ls : List Attribute) (h : Holding) : Type 0 where
  pub known : Known ls h.attributes
  pub list_well : WellList h.properties
  pub list_small : length (write_list h.properties) < 0x80000000

pub record WellAttachment (h : Holding) : Type 0 where
  pub holds : WellHolding (rendering_attribute ∷ attachment_attributes) h
  pub rendering : (c : Contents) × (h.attributes rendering_id ≡ Some c)

pub record Well (m : Message) : Type 0 where
  pub primary_small : m.primary < 256 ^ 4
  pub own_well : WellHolding message_attributes m.own
  pub rows_well : AllByRecursion WellList m.rows
  pub rows_few : length m.rows ≤ row_limit
  pub rows_small : length (write_table m.rows) < 0x80000000
  pub attachments_well : AllByRecursion WellAttachment m.attachments
  pub attachments_few : length m.attachments ≤ attachment_limit

-- Entries that fit.
abbrev pub one : ℕ → Meant → Entry
one i m = record { id = i; meant = m }

contents_fit : (i : ℕ) (a : Attribute) (c : Contents) → attribute_of i ≡ Some a → a.level < 256 → i < 256 ^ 4 → nature a.rule ≡ plain → Meets a c → Fits a (one i (contents c))
contents_fit i a c is level small pl m = record { known = is; level_small = level; id_small = small; data_small = m.small; again = rw pl (c, m.again, refl); octets = m.octets }

version_fits : (a : Attribute) × Fits a (one version_id version) × ((p : ℕ) → next_stage stage.Version (role a) p ≡ Ok stage.CodePage)
unfolding attribute_of means
version_fits = (_, record { known = refl; level_small = omega arith; id_small = omega arith; data_small = omega arith; again = (_, refl, refl); octets = (omega arith, (omega arith, (omega arith, (omega arith, tt)))) }, λ p. refl)

page_long : (n : ℕ) → length (normal (code_page n)) ≡ 8
unfolding normal
page_long n = simp (length-append, length_le)

primary_fits : (n : ℕ) → n < 256 ^ 4 → (a : Attribute) × Fits a (one code_page_id (primary n)) × ((p : ℕ) → next_stage stage.CodePage (role a) p ≡ Ok stage.Message)
unfolding attribute_of
primary_fits n h = (_, record { known = refl; level_small = omega arith; id_small = omega arith; data_small = omega (arith, page_long n); again = (code_page n, page_normal n h, refl); octets = page_octets n }, λ p. refl)

rows_fit : (rs : List (List Property)) → ToldBy table_bytes rs → length (write_table rs) < 0x80000000 → (a : Attribute) × Fits a (one recipients_id (table rs)) × ((p : ℕ) → next_stage stage.Message (role a) p ≡ Ok stage.Message)
unfolding attribute_of
rows_fit rs (bs, o, g) small =
    let (q, ow, lw) = table_turns rs bs o g in
    (_, record { known = refl; level_small = omega arith; id_small = omega arith; data_small = small; again = (rs, q, refl); octets = ow }, λ p. refl)

list_fits : (ps : List Property) → ToldBy list_bytes ps → length (write_list ps) < 0x80000000 → (a : Attribute) × Fits a (one message_properties_id (list ps)) × ((p : ℕ) → next_stage stage.Message (role a) p ≡ Ok stage.Message)
unfolding attribute_of
list_fits ps (bs, o, g) small =
    let (q, ow, lw) = list_turns ps bs o g in
    (_, record { known = refl; level_small = omega arith; id_small = omega arith; data_small = small; again = (ps, q, refl); octets = ow }, λ p. refl)

late_list_fits : (k : ℕ) (ps : List Property) → ToldBy list_bytes ps → length (write_list ps) < 0x80000000 →
    (a : Attribute) × Fits a (one attachment_properties_id (list ps)) × ((p : ℕ) → next_stage (stage.Attachment k) (role a) p ≡ Ok (stage.Attachment k))
unfolding attribute_of
late_list_fits k ps (bs, o, g) small =
    let (q, ow, lw) = list_turns ps bs o g in
    (_, record { known = refl; level_small = omega arith; id_small = omega arith; data_small = small; again = (ps, q, refl); octets = ow }, λ p. refl)

-- Their order.
module _ (held : ℕ → Option Contents) (s : Stage) (r : Role) (stays : (p : ℕ) → next_stage s r p ≡ Ok s) where
  found_good : (a : Attribute) (o : Option Contents) (rest : List Entry) → Placed r a → ((c : Contents) → o ≡ Some c → Meets a c) → Good s rest → Good s (found a.id o ++ rest)
  found_good a None rest pl meets g = g
  found_good a (Some c) rest pl meets g = (a, s, contents_fit a.id a c pl.0 pl.5 pl.1 pl.3 (meets c refl), (λ p. rw pl.2 (stays p)), g)

  attributes_good : (ls : List Attribute) (rest : List Entry) → AllByRecursion (Placed r) ls → ((a : Attribute) (c : Contents) → attribute_of a.id ≡ Some a → held a.id ≡ Some c → Meets a c) → Good s rest →
      Good s (attribute_entries ls held ++ rest)
  unfolding attribute_entries
  attributes_good [] rest pl meets g = g
  attributes_good (a ∷ ls) rest pl meets g =
      rw (append_assoc (found a.id (held a.id)) (attribute_entries ls held) rest)
      (found_good a (held a.id) _ pl.0 (λ c is. meets a c pl.0.0 is) (attributes_good ls rest pl.1 meets g))

meets_of : (ls : List Attribute) (held : ℕ → Option Contents) → Known ls held → (a : Attribute) (c : Contents) → attribute_of a.id ≡ Some a → held a.id ≡ Some c → Meets a c
meets_of ls held known a c is ec =
    let (b, isb, has, meets) = known a.id c ec in
    let same : b ≡ a = cc in
    rw same at meets

told_rows : (rs : List (List Property)) → AllByRecursion WellList rs → AllByRecursion (ToldBy list_bytes) rs
told_rows [] w = tt
told_rows (r ∷ rs) w = (w.0.0, told_rows rs w.1)

table_good : (rs : List (List Property)) (rest : List Entry) → ToldBy table_bytes rs → length (write_table rs) < 0x80000000 → Good stage.Message rest → Good stage.Message (table_entries rs ++ rest)
table_good [] rest v small g = g
table_good (r ∷ rs) rest v small g = let (a, ok, go) = rows_fit (r ∷ rs) v small in (a, stage.Message, ok, go, g)

list_good : (ps : List Property) (rest : List Entry) → ToldBy list_bytes ps → length (write_list ps) < 0x80000000 → Good stage.Message rest → Good stage.Message (list_entries message_properties_id ps ++ rest)
list_good [] rest v small g = g
list_good (p ∷ ps) rest v small g = let (a, ok, go) = list_fits (p ∷ ps) v small in (a, stage.Message, ok, go, g)

late_list_good : (k : ℕ) (ps : List Property) (rest : List Entry) → ToldBy list_bytes ps → length (write_list ps) < 0x80000000 → Good (stage.Attachment k) rest →
    Good (stage.Attachment k) (list_entries attachment_properties_id ps ++ rest)
late_list_good k [] rest v small g = g
late_list_good k (p ∷ ps) rest v small g = let (a, ok, go) = late_list_fits k (p ∷ ps) v small in (a, stage.Attachment k, ok, go, g)

rendering_is : attribute_of rendering_id ≡ Some rendering_attribute
unfolding attribute_of
rendering_is = refl

entries_are : (m : Message) → message_entries m ++ flat_map attachment_entries m.attachments ≡
    attribute_entries message_attributes m.own.attributes ++ (table_entries m.rows ++ (list_entries message_properties_id m.own.properties ++ flat_map attachment_entries m.attachments))
entries_are m = simp append_assoc

pub attachment_is : (h : Holding) (c : Contents) (rest : List Entry) → h.attributes rendering_id ≡ Some c →
    attachment_entries h ++ rest ≡ one rendering_id (contents c) ∷ (attribute_entries attachment_attributes h.attributes ++ (list_entries attachment_properties_id h.properties ++ rest))
unfolding attribute_entries
attachment_is h c rest is = rw is (ap (λ l. one rendering_id (contents c) ∷ l) (append_assoc (attribute_entries attachment_attributes h.attributes) (list_entries attachment_properties_id h.properties) rest))

-- An attachment that is the next.
attachment_good : (s : Stage) (k : ℕ) (h : Holding) (rest : List Entry) → ((p : ℕ) → next_stage s begins_attachment p ≡ Ok (stage.Attachment k)) → WellAttachment h →
    Good (stage.Attachment k) rest → Good s (attachment_entries h ++ rest)
attachment_good s k h rest go w g =
    let held = h.attributes in
    let (c, is) = w.rendering in
    let meets = meets_of (rendering_attribute ∷ attachment_attributes) held w.holds.known in
    let inner : Good (stage.Attachment k) (attribute_entries attachment_attributes held ++ (list_entries attachment_properties_id h.properties ++ rest)) =
    attributes_good held (stage.Attachment k) of_attachment (λ p. refl) attachment_attributes _ attachment_places meets
    (late_list_good k h.properties rest w.holds.list_well.0 w.holds.list_small g) in
    rw (attachment_is h c rest is)
    (rendering_attribute, stage.Attachment k, contents_fit rendering_id rendering_attribute c rendering_is (omega arith) (omega arith) refl (meets rendering_attribute c rendering_is is), go, inner)

late_good : (k : ℕ) (hs : List Holding) → k + length hs ≤ attachment_limit → AllByRecursion WellAttachment hs → Good (stage.Attachment k) (flat_map attachment_entries hs)
late_good k [] i w = refl
late_good k (h ∷ hs) i w =
    attachment_good (stage.Attachment k) (k + 1) h _ (λ p. rw (lt-ltb k attachment_limit (omega arith))) w.0 (late_good (k + 1) hs (omega arith) w.1)

attachments_good : (hs : List Holding) → length hs ≤ attachment_limit → AllByRecursion WellAttachment hs → Good stage.Message (flat_map attachment_entries hs)
attachments_good [] i w = refl
attachments_good (h ∷ hs) i w = attachment_good stage.Message 1 h _ (λ p. refl) w.0 (late_good 1 hs (omega arith) w.1)

pub message_good : (m : Message) → Well m → Good stage.Version (entries_in m)
unfolding entries_in
message_good m w =
    let (e₁, ok₁, go₁) = version_fits in
    let (e₂, ok₂, go₂) = primary_fits m.primary w.primary_small in
    let held = m.own.attributes in
    let last = attachments_good m.attachments w.attachments_few w.attachments_well in
    let third = list_good m.own.properties _ w.own_well.list_well.0 w.own_well.list_small last in
    let second = table_good m.rows _ (table_from m.rows w.rows_few (told_rows m.rows w.rows_well)) w.rows_small third in
    let main = attributes_good held stage.Message of_message (λ p. refl) message_attributes _ message_places (meets_of message_attributes held w.own_well.known) second in
    (e₁, stage.CodePage, ok₁, go₁, (e₂, stage.Message, ok₂, go₂, rw (entries_are m) main))
