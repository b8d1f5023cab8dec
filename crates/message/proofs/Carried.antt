-- A message that a stream carries is well-formed.
use Rattle.std.proofs.Common.{◌≡◌, ℕ, suc, ◌+◌, ◌^◌, ◌<◌, ◌≤◌, Bool, true, false, ◌||◌, eqb, List, [], ◌∷◌, map, length, Some, None, Option, sym, refl, ap, ◌∙◌, inl, inr, arith}
use Rattle.std.specs.List.{flat_map, AllByRecursion}
use Rattle.std.proofs.lemmas.List.{length-map, length-append}
use Rattle.std.proofs.lemmas.Bool.{eqb-true, or_right, both_ways}
use Rattle.source.specs.Bytes.{Octets}
use Rattle.source.specs.Content.{source_limit}
use Rattle.attribute.specs.Table.{attribute_of, has_id, message_attributes, attachment_attributes, rendering_attribute, rendering_id}
use Rattle.attribute.specs.declared.Attribute.{Attribute}
use Rattle.attribute.specs.declared.Rule.{Rule}
use Rattle.attribute.specs.declared.Rule.TheVariants as rule
use Rattle.frame.specs.Stages.{Role, of_message, begins_attachment, of_attachment, attachment_limit}
use Rattle.contents.specs.Contents.{Contents, means, primary_number}
use Rattle.contents.proofs.Normal.{normal_means}
use Rattle.scan.proofs.Numbers.{length_le}
use Rattle.property.specs.Lists.{Property, row_limit, indexed}
use Rattle.property.specs.Writing.{write_list, write_table}
use Rattle.stream.specs.Reading.{primary, contents, list, table, Nature, plain, page, rows, properties, nature}
use Rattle.stream.specs.Messages.{Message, Holding, or_default}
use Rattle.message.specs.Grammar.{run, DataMean, Laid, frame_bytes, Right, Is, Attached, attached, Begun, InOrder, Earliest, Told, WithId, OfNature, Holds, Each, Tells, Stream, list_bytes, table_bytes}
use Rattle.message.proofs.Pieces.{octets_left}
use Rattle.message.proofs.Rewrites.{ToldBy, list_turns, table_turns, table_parts, list_from}
use Rattle.message.proofs.Indexing.{WellList, indexed_list, indexed_rows, indexed_size, table_size}
use Rattle.message.proofs.NormalData.{normal_octets, page_small}
use Rattle.message.proofs.Roles.{home, is_rendering, at_place, rendering_plain, page_nature, all_parts}
use Rattle.message.proofs.Laying.{Meets, WellHolding, WellAttachment, Well}

page_rule : (r : Rule) → nature r ≡ page → r ≡ rule.CodePage
page_rule rule.Text n = absurd (let z : ◌≡◌ {A = ℕ} 0 1 = cc n in omega arith)
page_rule rule.Class n = absurd (let z : ◌≡◌ {A = ℕ} 0 1 = cc n in omega arith)
page_rule rule.Date n = absurd (let z : ◌≡◌ {A = ℕ} 0 1 = cc n in omega arith)
page_rule rule.Digits n = absurd (let z : ◌≡◌ {A = ℕ} 0 1 = cc n in omega arith)
page_rule rule.Status n = absurd (let z : ◌≡◌ {A = ℕ} 0 1 = cc n in omega arith)
page_rule rule.Priority n = absurd (let z : ◌≡◌ {A = ℕ} 0 1 = cc n in omega arith)
page_rule rule.YesNo n = absurd (let z : ◌≡◌ {A = ℕ} 0 1 = cc n in omega arith)
page_rule rule.Raw n = absurd (let z : ◌≡◌ {A = ℕ} 0 1 = cc n in omega arith)
page_rule rule.Rendering n = absurd (let z : ◌≡◌ {A = ℕ} 0 1 = cc n in omega arith)
page_rule rule.Version n = absurd (let z : ◌≡◌ {A = ℕ} 0 1 = cc n in omega arith)
page_rule rule.CodePage n = refl
page_rule rule.Recipients n = absurd (let z : ◌≡◌ {A = ℕ} 0 1 = cc n in omega arith)
page_rule rule.Properties n = absurd (let z : ◌≡◌ {A = ℕ} 0 1 = cc n in omega arith)

-- A frame that is right, of octets, and no longer than a source.
pub record Fine (f : Laid) : Type 0 where
  pub right : Right f
  pub octets : Octets f.bytes
  pub short : length f.bytes ≤ source_limit

pub all_fine : (fs : List Laid) (bs : List ℕ) → Octets bs → length bs ≤ source_limit → AllByRecursion Right fs → run frame_bytes fs bs → AllByRecursion Fine fs
all_fine [] bs o l right g = tt
all_fine (f ∷ fs) bs o l right g =
    let (oa, ob) = octets_left g.front g.back (rw g.joins at o) in
    let w = g.one in
    let w₂ = w.other in
    let w₃ = w₂.other in
    let w₄ = w₃.other in
    let (o₁, p₁) = octets_left w.front w.back (rw w.joins at oa) in
    let (o₂, p₂) = octets_left w₂.front w₂.back (rw w₂.joins at p₁) in
    let (o₃, p₃) = octets_left w₃.front w₃.back (rw w₃.joins at p₂) in
    let (o₄, p₄) = octets_left w₄.front w₄.back (rw w₄.joins at p₃) in
    let same : w₄.front ≡ f.bytes = w₄.one in
    let l₀ : length bs ≡ length g.front + length g.back = ap length g.joins ∙ length-append g.front g.back in
    let l₁ : length g.front ≡ length w.front + length w.back = ap length w.joins ∙ length-append w.front w.back in
    let l₂ : length w.back ≡ length w₂.front + length w₂.back = ap length w₂.joins ∙ length-append w₂.front w₂.back in
    let l₃ : length w₂.back ≡ length w₃.front + length w₃.back = ap length w₃.joins ∙ length-append w₃.front w₃.back in
    let l₄ : length w₃.back ≡ length w₄.front + length w₄.back = ap length w₄.joins ∙ length-append w₄.front w₄.back in
    let l₅ : length w₄.front ≡ length f.bytes = ap length same in
    (record { right = right.0; octets = rw same at o₄; short = omega arith }, all_fine fs g.back ob (omega arith) right.1 g.other)

-- What data of a nature mean.
by_nature : (f : Laid) (n : Nature) → Right f → nature f.attribute.rule ≡ n → DataMean n f.attribute.rule f.bytes f.meant
by_nature f n right e = rw e at right.admitted

told_contents : (f : Laid) (c : Contents) → Right f → nature f.attribute.rule ≡ plain → f.meant ≡ contents c → means f.attribute.rule f.bytes ≡ Some c
told_contents f c right e m = let (d, is, same) = by_nature f plain right e in let both : contents d ≡ contents c = sym same ∙ m in cc

told_list : (f : Laid) (ps : List Property) → Right f → nature f.attribute.rule ≡ properties → f.meant ≡ list ps → list_bytes ps f.bytes
told_list f ps right e m =
    let (qs, is, same) = by_nature f properties right e in
    let both : list qs ≡ list ps = sym same ∙ m in
    let equal : qs ≡ ps = cc in
    rw equal at is

told_table : (f : Laid) (rs : List (List Property)) → Right f → nature f.attribute.rule ≡ rows → f.meant ≡ table rs → table_bytes rs f.bytes
told_table f rs right e m =
    let (qs, is, same) = by_nature f rows right e in
    let both : table qs ≡ table rs = sym same ∙ m in
    let equal : qs ≡ rs = cc in
    rw equal at is

told_primary : (f : Laid) (n : ℕ) → Fine f → nature f.attribute.rule ≡ page → f.meant ≡ primary n → n < 256 ^ 4
told_primary f n fine e m =
    let (c, is, same) = by_nature f page fine.right e in
    let both : primary (primary_number c) ≡ primary n = sym same ∙ m in
    let equal : primary_number c ≡ n = cc in
    let by_page : means rule.CodePage f.bytes ≡ Some c = ap (λ r. means r f.bytes) (sym (page_rule f.attribute.rule e)) ∙ is in
    rw (← equal) (page_small f.bytes c fine.octets by_page)

-- The earliest of a kind is of the kind, and is one of the frames.
earliest_is : (P Q : Laid → Type 0) (fs : List Laid) (f : Laid) → AllByRecursion Q fs → Earliest P fs f → P f × Q f
earliest_is P Q [] f all e = absurd e
earliest_is P Q (g ∷ fs) f all (inl (p, same)) = rw same (p, all.0)
earliest_is P Q (g ∷ fs) f all (inr (no', e)) = earliest_is P Q fs f all.1 e

-- Frames that may hold the attributes ls.
abbrev Among : List Attribute → Laid → Type 0
Among ls f = Fine f × (nature f.attribute.rule ≡ plain → has_id f.attribute.id ls ≡ true)

among : (r : Role) (ls : List Attribute) (fs : List Laid) → ((i : ℕ) → has_id i (home r) ≡ true → has_id i ls ≡ true) → AllByRecursion (Is r) fs → AllByRecursion Fine fs → AllByRecursion (Among ls) fs
among r ls [] inside is fine = tt
among r ls (f ∷ fs) inside is fine = ((fine.0, (λ pl. inside f.attribute.id (at_place r f fine.0.right is.0 pl))), among r ls fs inside is.1 fine.1)

nothing : length (write_list []) < 0x80000000
unfolding write_list
nothing = simp (length-append, length_le) (omega arith)

nothing_rows : length (write_table []) < 0x80000000
unfolding write_table
nothing_rows = simp (length-append, length_le) (omega arith)

empty : ToldBy list_bytes []
empty = list_from [] (omega arith) tt

module _ (ls : List Attribute) (fs : List Laid) (all : AllByRecursion (Among ls) fs) where
  contents_known : (i : ℕ) (c : Contents) → Told (WithId i) contents fs (Some c) → (a : Attribute) × (attribute_of i ≡ Some a) × (has_id i ls ≡ true) × Meets a c
  contents_known i c (f, e, m) =
      let ((id, pl), (fine, has)) = earliest_is (WithId i) (Among ls) fs f all e in
      let is : means f.attribute.rule f.bytes ≡ Some c = told_contents f c fine.right pl m in
      let short : length f.bytes ≤ source_limit = fine.short in
      let (again, long) = normal_means f.attribute.rule f.bytes c fine.octets is in (
        f.attribute,
        ap attribute_of (sym id) ∙ fine.right.known,
        ap (λ j. has_id j ls) (sym id) ∙ has pl,
        record { again = again; small = omega arith; octets = normal_octets f.attribute.rule f.bytes c fine.octets is },
      )

  list_well : (o : Option (List Property)) → Told (OfNature properties) list fs o → WellList (indexed (or_default o [])) × (length (write_list (indexed (or_default o []))) < 0x80000000)
  list_well None w = ((empty, tt), nothing)
  list_well (Some ps) (f, e, m) =
      let (n, (fine, has)) = earliest_is (OfNature properties) (Among ls) fs f all e in
      let w : list_bytes ps f.bytes = told_list f ps fine.right n m in
      let (q, ow, lw) = list_turns ps f.bytes fine.octets w in
      let short : length f.bytes ≤ source_limit = fine.short in
      (indexed_list ps (f.bytes, fine.octets, w), omega (arith, indexed_size ps))

  rows_well : (o : Option (List (List Property))) → Told (OfNature rows) table fs o →
      AllByRecursion WellList (map indexed (or_default o [])) × (length (map indexed (or_default o [])) ≤ row_limit) × (length (write_table (map indexed (or_default o []))) < 0x80000000)
  rows_well None w = (tt, omega arith, nothing_rows)
  rows_well (Some rs) (f, e, m) =
      let (n, (fine, has)) = earliest_is (OfNature rows) (Among ls) fs f all e in
      let w : table_bytes rs f.bytes = told_table f rs fine.right n m in
      let (q, ow, lw) = table_turns rs f.bytes fine.octets w in
      let (parts, few) = table_parts rs (f.bytes, fine.octets, w) in
      let short : length f.bytes ≤ source_limit = fine.short in
      (indexed_rows rs parts, omega (arith, length-map rs indexed), omega (arith, table_size rs))

  holding_well : (h : Holding) → Holds fs h → WellHolding ls h
  holding_well h w =
      let (well, small) = list_well w.listed w.listed_told in
      record { known = λ i c e. contents_known i c (rw e at (w.by_id i)); list_well = rw w.properties_are well; list_small = rw w.properties_are small }

abbrev of_attachments : List Attribute
of_attachments = rendering_attribute ∷ attachment_attributes

attached_among : (h : Attached) → Begun h → AllByRecursion Fine (attached h) → AllByRecursion (Among of_attachments) (attached h)
attached_among h begun fine = (
  (among begins_attachment of_attachments (h.rendering ∷ []) (λ i e. one_of (eqb rendering_id i) (has_id i attachment_attributes) e) (begun.0, tt) (fine.0, tt)).0,
  among of_attachment of_attachments h.rest (λ i e. or_right (eqb rendering_id i) _ e) begun.1 fine.1,
)
  where
    one_of : (a b : Bool) → (a || false) ≡ true → (a || b) ≡ true
    one_of true b e = refl
    one_of false b e = absurd (both_ways false refl e)

-- An attachment has a rendering, since a frame of it begins it.
rendering_told : (h : Attached) → Begun h → AllByRecursion Fine (attached h) → (o : Option Contents) → Told (WithId rendering_id) contents (attached h) o → (c : Contents) × (o ≡ Some c)
rendering_told h begun fine (Some c) w = (c, refl)
rendering_told h begun fine None w =
    let f = h.rendering in
    let right : Right f = fine.0.right in
    absurd (w.0 (eqb-true _ _ (is_rendering begins_attachment f right begun.0), rendering_plain f right begun.0))

attachments_well : (ls : List Attached) (hs : List Holding) → AllByRecursion Begun ls → AllByRecursion Fine (flat_map attached ls) → Each (λ a h. Holds (attached a) h) ls hs →
    AllByRecursion WellAttachment hs × (length hs ≡ length ls)
attachments_well [] [] begun fine w = (tt, refl)
attachments_well [] (h ∷ hs) begun fine w = absurd w
attachments_well (a ∷ ls) [] begun fine w = absurd w
attachments_well (a ∷ ls) (h ∷ hs) begun fine w =
    let (here, later) = all_parts Fine (attached a) (flat_map attached ls) fine in
    let (more, long) = attachments_well ls hs begun.1 later w.1 in (
      (
        record {
          holds = holding_well of_attachments (attached a) (attached_among a begun.0 here) h w.0;
          rendering = rendering_told a begun.0 here (h.attributes rendering_id) (w.0.by_id rendering_id);
        },
        more,
      ),
      ap suc long,
    )

frames_well : (fs : List Laid) (o : InOrder fs) (m : Message) → AllByRecursion Fine fs → Tells fs o m → Well m
frames_well fs o m all t =
    let own = o.opening ∷ (o.page ∷ o.own) in
    let (fine, late) = all_parts Fine own (flat_map attached o.attachments) (rw o.laid at all) in
    let within : AllByRecursion (Among message_attributes) o.own = among of_message message_attributes o.own (λ i e. e) o.own_are fine.1.1 in
    let (r₁, r₂, r₃) = rows_well message_attributes o.own within t.rowed t.rowed_told in
    let (hs, long) = attachments_well o.attachments m.attachments o.attachments_are late t.attachments_hold in
    let few : length o.attachments ≤ attachment_limit = o.few in
    record {
      primary_small = told_primary o.page m.primary fine.1.0 (page_nature o.page fine.1.0.right o.page_is) t.primary_is;
      own_well = holding_well message_attributes o.own within m.own t.own_holds;
      rows_well = rw t.rows_are r₁;
      rows_few = rw t.rows_are r₂;
      rows_small = rw t.rows_are r₃;
      attachments_well = hs;
      attachments_few = omega arith;
    }

pub stream_well : (xs : List ℕ) (m : Message) → Octets xs → length xs ≤ source_limit → Stream xs m → Well m
stream_well xs m o short s =
    let w = s.bytes.other in
    let (o₁, o₂) = octets_left s.bytes.front s.bytes.back (rw s.bytes.joins at o) in
    let (o₃, o₄) = octets_left w.front w.back (rw w.joins at o₂) in
    let l₁ : length xs ≡ length s.bytes.front + length s.bytes.back = ap length s.bytes.joins ∙ length-append s.bytes.front s.bytes.back in
    let l₂ : length s.bytes.back ≡ length w.front + length w.back = ap length w.joins ∙ length-append w.front w.back in
    frames_well s.frames s.order m (all_fine s.frames w.back o₄ (omega arith) s.right w.other) s.tells
