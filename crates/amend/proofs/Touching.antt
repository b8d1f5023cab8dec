-- The frames of a target that is touched.
use Rattle.std.proofs.Common.{◌≡◌, ℕ, ◌<◌, ◌≤◌, cond, eqb, List, [], ◌∷◌, ◌++◌, length, Some, None, Option, refl, ap, ◌∙◌}
use Rattle.std.specs.List.{flat_map, AllByRecursion}
use Rattle.std.proofs.ByRecursion.{All-weaker}
use Rattle.attribute.specs.Table.{attribute_of, rendering_id, rendering_attribute, attachment_attributes, attachment_properties_id}
use Rattle.attribute.specs.declared.Attribute.{Attribute}
use Rattle.contents.specs.Contents.{Contents}
use Rattle.frame.specs.declared.stages.Stage.{Stage}
use Rattle.index.specs.declared.attributes.AttributeRow.{AttributeRow}
use Rattle.stream.specs.Reading.{Entry}
use Rattle.stream.specs.Messages.{holding_of, properties_of}
use Rattle.stream.specs.Writing.{write_entry, attribute_entries, attachment_entries}
use Rattle.form.specs.Targets.{remaining, Readable, own_part, Gathered, Taken}
use Rattle.form.specs.Holdings.{Plain, contents_in}
use Rattle.form.specs.Wholes.{Rendered, all_attached}
use Rattle.form.proofs.Natures.{level_of, Apt, all_apt, own_levels}
use Rattle.form.proofs.Tells.{target_joined, contents_same, list_same, attributes_same, own_all, rendering_plain, attachment_plain}
use Rattle.form.proofs.Beginnings.{head}
use Rattle.editing.specs.Amendments as spec
use Rattle.editing.specs.Amendments.{slot_after, touched}
use Rattle.amend.specs.Attachments.{attachments_in, attachments_bytes, first_touched}
use Rattle.amend.specs.Parts.{attribute_after, attributes_after, properties_after, attachment_after}
use Rattle.amend.proofs.Attached.{bytes_none, bytes_cons, all_bytes, none_held, more_held}

pub attachment_parted : (xs : List ℕ) (rows : List AttributeRow) (τ : spec.Touch)
    → attachment_after xs rows τ
    ≡ attribute_after xs rows τ.slot rendering_attribute
    ++ (attributes_after xs rows τ.slot attachment_attributes
    ++ properties_after xs rows attachment_properties_id τ.listing)
unfolding attachment_after attribute_after attributes_after properties_after
attachment_parted xs rows τ = target_joined rendering_attribute attachment_attributes (slot_after τ.slot (contents_in xs rows)) _

-- A slot does the same to equal contents.
slot_same : (σ : spec.Slot) (f h : ℕ → Option Contents) (i : ℕ) → f i ≡ h i → slot_after σ f i ≡ slot_after σ h i
slot_same spec.kept f h i e = e
slot_same (spec.put j c) f h i e = ap (cond (eqb j i) (Some c)) e
slot_same (spec.dropped j) f h i e = ap (cond (eqb j i) None) e

-- Rows that were gathered of a target hold what its entries hold.
module _ (xs : List ℕ) (es : List Entry) (rs : List AttributeRow) (g : Gathered xs es rs) (apt : AllByRecursion Apt es) where
  pub slots_same : (σ : spec.Slot) (all : List Attribute) → AllByRecursion Plain all
      → attribute_entries all (slot_after σ (contents_in xs rs)) ≡ attribute_entries all (slot_after σ (holding_of es).attributes)
  slots_same σ all p =
      attributes_same all _ _ (All-weaker Plain _ (λ a h. slot_same σ (contents_in xs rs) (holding_of es).attributes a.id (contents_same xs es rs g apt a h)) all p)

  pub attachment_touched : AllByRecursion (λ e. level_of e.id ≡ 2) es → (τ : spec.Touch)
      → attachment_after xs rs τ ≡ flat_map write_entry (attachment_entries (touched τ (holding_of es)))
  unfolding attachment_after properties_of attribute_of
  attachment_touched level τ =
      rw (slots_same τ.slot (rendering_attribute ∷ attachment_attributes) (rendering_plain, attachment_plain), list_same xs es rs g apt 2 refl level)

-- The first attachment touched, where there is one, and those behind it.
module _ (xs : List ℕ) (p : ℕ) (s : Stage) (g : Readable xs p s) (τ : spec.Touch) where
  pub none_touched : length xs ≤ p → attachments_bytes (first_touched τ (attachments_in (remaining xs p s))) ≡ []
  none_touched h = ap (λ l. attachments_bytes (first_touched τ l)) (none_held xs p s g h) ∙ bytes_none

  module _ (r : Rendered (remaining xs p s)) (h : p < length xs) where
    rendering_level : level_of rendering_id ≡ 2
    unfolding attribute_of
    rendering_level = refl

    own_touched : (rows : List AttributeRow) (q : ℕ) (t : Stage) → Taken xs p s rows q t
        → attachment_after xs rows τ ≡ flat_map write_entry (attachment_entries (touched τ (holding_of (own_part (remaining xs p s)))))
    own_touched rows q t k =
        let (e, es, m, d) = head xs p s g r h in
        let level = own_levels xs p s e es g m in
        let two : level_of e.id ≡ 2 = ap level_of d ∙ rendering_level in
        let l : AllByRecursion (λ x. level_of x.id ≡ 2) (own_part (e ∷ es)) = rw two at level in
        attachment_touched xs (own_part (remaining xs p s)) rows k.gathered (own_all Apt _ (all_apt xs _ p s g refl)) (rw m l) τ

    pub first_parted : (rows : List AttributeRow) (q : ℕ) (t : Stage) → Taken xs p s rows q t
        → attachments_bytes (first_touched τ (attachments_in (remaining xs p s))) ≡ attachment_after xs rows τ ++ all_attached (remaining xs q t)
    first_parted rows q t k =
        ap (λ l. attachments_bytes (first_touched τ l)) (more_held xs p s g r h q t k.rest)
        ∙ bytes_cons (touched τ (holding_of (own_part (remaining xs p s)))) (attachments_in (remaining xs q t))
        ∙ (rw (own_touched rows q t k, all_bytes (remaining xs q t)))
