-- What well-formed messages are apart from sizes; the sizes follow where the written form is short.
use Rattle.std.proofs.Common.{◌≡◌, ℕ, ◌+◌, ◌^◌, ◌<◌, ◌≤◌, true, false, eqb, List, [], ◌∷◌, ◌++◌, length, Some, sum_by, Option, refl, ap, ◌∙◌, inl, inr, arith}
use Rattle.std.specs.List.{flat_map, AllByRecursion}
use Rattle.std.proofs.lemmas.List.{length-append}
use Rattle.std.proofs.lemmas.List.Sums.{sum_by-cons, sum_by-append}
use Rattle.std.proofs.ByRecursion.{All-weaker}
use Rattle.std.proofs.lemmas.Bool.{eqb-true, cases_Bool, both_ways}
use Rattle.source.specs.Bytes.{Octets, le}
use Rattle.source.specs.Content.{source_limit}
use Rattle.attribute.specs.Table.{attribute_of, has_id, message_attributes, attachment_attributes, rendering_attribute, rendering_id, message_properties_id, attachment_properties_id, recipients_id, code_page_id, version_id}
use Rattle.attribute.specs.declared.Attribute.{Attribute}
use Rattle.frame.specs.Stages.{attachment_limit}
use Rattle.contents.specs.Contents.{Contents, means, normal}
use Rattle.scan.proofs.Numbers.{length_le}
use Rattle.property.specs.Lists.{Property, row_limit}
use Rattle.property.specs.Writing.{write_list, write_table}
use Rattle.stream.specs.Reading.{version, primary, contents, list, table, Entry}
use Rattle.stream.specs.Messages.{Message, Holding}
use Rattle.stream.specs.Writing.{entry_data, found, attribute_entries, list_entries, table_entries, message_entries, attachment_entries, entries_in, written}
use Rattle.message.proofs.Indexing.{WellList}
use Rattle.message.proofs.Laying.{WellHolding, WellAttachment, Well, one}
use Rattle.message.proofs.Forms.{forms_read}

abbrev pub Admitted : List Attribute → (ℕ → Option Contents) → Type 0
Admitted ls held =
    (i : ℕ) (c : Contents) → held i ≡ Some c
    → (a : Attribute) × (attribute_of i ≡ Some a) × (has_id i ls ≡ true) × (means a.rule (normal c) ≡ Some c) × Octets (normal c)

pub record ShapedHolding (ls : List Attribute) (h : Holding) : Type 0 where
  pub admitted : Admitted ls h.attributes
  pub list_well : WellList h.properties

pub record ShapedAttachment (h : Holding) : Type 0 where
  pub holds : ShapedHolding (rendering_attribute ∷ attachment_attributes) h
  pub rendering : (c : Contents) × (h.attributes rendering_id ≡ Some c)

pub record Shaped (m : Message) : Type 0 where
  pub primary_small : m.primary < 256 ^ 4
  pub own_shaped : ShapedHolding message_attributes m.own
  pub rows_well : AllByRecursion WellList m.rows
  pub rows_few : length m.rows ≤ row_limit
  pub attachments_shaped : AllByRecursion ShapedAttachment m.attachments
  pub attachments_few : length m.attachments ≤ attachment_limit

-- Well-formed messages are shaped.
well_holding : (ls : List Attribute) (h : Holding) → WellHolding ls h → ShapedHolding ls h
well_holding ls h w = record { admitted = λ i c is. let (a, x, y, z) = w.known i c is in (a, x, y, z.again, z.octets); list_well = w.list_well }

well_attachment : (h : Holding) → WellAttachment h → ShapedAttachment h
well_attachment h w = record { holds = well_holding (rendering_attribute ∷ attachment_attributes) h w.holds; rendering = w.rendering }

pub well_shaped : (m : Message) → Well m → Shaped m
well_shaped m w = record {
  primary_small = w.primary_small;
  own_shaped = well_holding message_attributes m.own w.own_well;
  rows_well = w.rows_well;
  rows_few = w.rows_few;
  attachments_shaped = All-weaker WellAttachment ShapedAttachment well_attachment m.attachments w.attachments_well;
  attachments_few = w.attachments_few;
}

-- How long entries are as frames.
unfoldable bulk : List Entry → ℕ
bulk es = sum_by (λ e. 11 + length (entry_data e.meant)) es

bulk_more : (e : Entry) (es : List Entry) → bulk (e ∷ es) ≡ length (entry_data e.meant) + 11 + bulk es
unfolding bulk
bulk_more e es = omega (arith, sum_by-cons (λ e. 11 + length (entry_data e.meant)) e es)

bulk_append : (es ds : List Entry) → bulk (es ++ ds) ≡ bulk es + bulk ds
unfolding bulk
bulk_append es ds = sum_by-append (λ e. 11 + length (entry_data e.meant)) es ds

attribute_size : (ls : List Attribute) (held : ℕ → Option Contents) (i : ℕ) (c : Contents) → has_id i ls ≡ true → held i ≡ Some c → length (normal c) ≤ bulk (attribute_entries ls held)
unfolding attribute_entries
attribute_size [] held i c has is = absurd (both_ways false refl has)
attribute_size (a ∷ ls) held i c has is =
    let b = bulk_append (found a.id (held a.id)) (attribute_entries ls held) in
    elim (cases_Bool (eqb a.id i)) [
      | inl t ↦
          let here : held a.id ≡ Some c = ap held (eqb-true a.id i t) ∙ is in
          let same : bulk (found a.id (held a.id)) ≡ bulk (found a.id (Some c)) = ap (λ o. bulk (found a.id o)) here in
          omega (arith, bulk_more (one a.id (contents c)) [])
      | inr f ↦ omega (arith, attribute_size ls held i c (rw f at has) is)
    ]

list_bulk : (j : ℕ) (ps : List Property) → length (write_list ps) ≤ bulk (list_entries j ps) + 4
unfolding write_list
list_bulk j [] = omega (arith, length-append (le 4 0) [], length_le 4 0)
list_bulk j (p ∷ ps) = omega (arith, bulk_more (one j (list (p ∷ ps))) [])

table_bulk : (rs : List (List Property)) → length (write_table rs) ≤ bulk (table_entries rs) + 4
unfolding write_table
table_bulk [] = omega (arith, length-append (le 4 0) [], length_le 4 0)
table_bulk (r ∷ rs) = omega (arith, bulk_more (one recipients_id (table (r ∷ rs))) [])

holding_well : (ls : List Attribute) (h : Holding) → ShapedHolding ls h → bulk (attribute_entries ls h.attributes) ≤ source_limit → length (write_list h.properties) ≤ source_limit + 4 → WellHolding ls h
holding_well ls h s a b = record {
  known = λ i c is.
      let (e, x, y, z, o) = s.admitted i c is in
      (e, x, y, record { again = z; small = omega (arith, attribute_size ls h.attributes i c y is); octets = o });
  list_well = s.list_well;
  list_small = omega arith;
}

attachment_well : (h : Holding) → ShapedAttachment h → bulk (attachment_entries h) ≤ source_limit → WellAttachment h
attachment_well h s a =
    let b = bulk_append (attribute_entries (rendering_attribute ∷ attachment_attributes) h.attributes) (list_entries attachment_properties_id h.properties) in
    record {
      holds = holding_well (rendering_attribute ∷ attachment_attributes) h s.holds (omega arith) (omega (arith, list_bulk attachment_properties_id h.properties));
      rendering = s.rendering;
    }

attachments_well : (hs : List Holding) → AllByRecursion ShapedAttachment hs → bulk (flat_map attachment_entries hs) ≤ source_limit → AllByRecursion WellAttachment hs
attachments_well [] s a = tt
attachments_well (h ∷ hs) s a =
    let b = bulk_append (attachment_entries h) (flat_map attachment_entries hs) in
    (attachment_well h s.0 (omega arith), attachments_well hs s.1 (omega arith))

written_size : (m : Message) → length (written m) ≡ 6 + bulk (entries_in m)
unfolding bulk
written_size m = forms_read.size m

message_bulk : (m : Message) →
    bulk (attribute_entries message_attributes m.own.attributes) + bulk (table_entries m.rows) + bulk (list_entries message_properties_id m.own.properties) + bulk (flat_map attachment_entries m.attachments) ≤ bulk (entries_in m)
unfolding entries_in
message_bulk m =
    let at = attribute_entries message_attributes m.own.attributes in
    let ls = list_entries message_properties_id m.own.properties in
    omega (
      arith,
      bulk_more (one version_id version) (one code_page_id (primary m.primary) ∷ (message_entries m ++ flat_map attachment_entries m.attachments)),
      bulk_more (one code_page_id (primary m.primary)) (message_entries m ++ flat_map attachment_entries m.attachments),
      bulk_append (message_entries m) (flat_map attachment_entries m.attachments),
      bulk_append at (table_entries m.rows ++ ls),
      bulk_append (table_entries m.rows) ls,
    )

-- A shaped message with a short form is well-formed.
pub shaped_well : (m : Message) → Shaped m → length (written m) ≤ source_limit → Well m
shaped_well m s short =
    let w = written_size m in
    let b = message_bulk m in
    record {
      primary_small = s.primary_small;
      own_well = holding_well message_attributes m.own s.own_shaped (omega arith) (omega (arith, list_bulk message_properties_id m.own.properties));
      rows_well = s.rows_well;
      rows_few = s.rows_few;
      rows_small = omega (arith, table_bulk m.rows);
      attachments_well = attachments_well m.attachments s.attachments_shaped (omega arith);
      attachments_few = s.attachments_few;
    }
