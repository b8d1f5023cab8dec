-- The frame of one attribute as a slot leaves it.
use Rattle.std.proofs.Common.{◌≡◌, ℕ, ◌+◌, ◌<◌, ◌≤◌, true, List, [], ◌++◌, length, get_or, drop, is_some, Some, Ok, sym, refl, ap, ◌∙◌, append-nil, arith}
use Rattle.std.specs.List.{flat_map}
use Rattle.std.proofs.lemmas.List.{take_all, drop_more, drop_all}
use Rattle.std.proofs.lemmas.Bool.{eq-eqb, ne_eqb}
use Rattle.source.specs.Bytes.{part}
use Rattle.scan.specs.Scans.{asked}
use Rattle.scan.proofs.Parts.{asked_within}
use Rattle.attribute.specs.Table.{attribute_of}
use Rattle.attribute.specs.declared.Attribute.{Attribute}
use Rattle.attribute.specs.declared.Rule.{Rule}
use Rattle.contents.specs.Contents.{Contents, means, admits, normal, normal_data}
use Rattle.index.specs.declared.attributes.AttributeRow.{AttributeRow}
use Rattle.stream.specs.Writing.{level_in, write_entry, found, attribute_entries}
use Rattle.form.specs.Framing.{framed}
use Rattle.form.specs.Holdings.{Plain, contents_in, attribute_bytes}
use Rattle.form.proofs.Holds.{joined_append}
use Rattle.editing.specs.Amendments as spec
use Rattle.editing.specs.Amendments.{slot_after}
use Rattle.amend.specs.declared.changes.Slot.TheVariants.{Kept, Put, Dropped}
use Rattle.amend.specs.Changes.{SlotMeans}
use Rattle.amend.specs.Parts.{attribute_after, attributes_after}

-- All of the input.
pub whole_part : (ys : List ℕ) (n : ℕ) → n ≡ length ys → part ys 0 n ≡ ys
unfolding part
whole_part ys n e = take_all n ys (omega arith)

pub whole_admitted : (ρ : Rule) (ys : List ℕ) (n : ℕ) → n ≡ length ys → admits ρ ys ≡ true → asked (admits ρ) ys 0 n ≡ Ok true
whole_admitted ρ ys n e t = asked_within (admits ρ) ys 0 n (omega arith) ∙ ap (λ l. Ok (admits ρ l)) (whole_part ys n e) ∙ ap Ok t

-- The frame of an attribute that is there.
pub found_framed : (a : Attribute) → Plain a → (c : Contents) → flat_map write_entry (found a.id (Some c)) ≡ framed a.level a.id (normal c)
unfolding write_entry framed
found_framed a p c = append-nil _ ∙ ap (λ o. framed (level_in o) a.id (normal c)) p.known

-- Two attributes of the table with one id are one.
one_attribute : (a b : Attribute) → Plain a → Plain b → b.id ≡ a.id → b ≡ a
one_attribute a b p q e =
    let f : Some b ≡ Some a = sym q.known ∙ ap attribute_of e ∙ p.known in cc

module _ (ys : List ℕ) (a : Attribute) (p : Plain a) where
  -- What is put has contents under the attribute's rule.
  put_means : (b : Attribute) (σ : spec.Slot) → SlotMeans ys (Put b) σ → b.id ≡ a.id
      → (c : Contents) × (means a.rule ys ≡ Some c) × (σ ≡ spec.put a.id c)
  put_means b spec.kept m e = absurd m
  put_means b (spec.put i c) m e =
      (c, ap (λ d. means d.rule ys) (sym (one_attribute a b p m.1 e)) ∙ m.2, ap (λ j. spec.put j c) (sym m.0 ∙ e))
  put_means b (spec.dropped i) m e = absurd m

  pub put_admitted : (b : Attribute) (σ : spec.Slot) → SlotMeans ys (Put b) σ → b.id ≡ a.id → admits a.rule ys ≡ true
  unfolding admits
  put_admitted b σ m e = let (c, f, _) = put_means b σ m e in ap is_some f

  module _ (xs : List ℕ) (rows : List AttributeRow) where
    pub put_after : (b : Attribute) (σ : spec.Slot) → SlotMeans ys (Put b) σ → b.id ≡ a.id
        → attribute_after xs rows σ a ≡ framed a.level a.id (normal_data a.rule ys)
    unfolding attribute_after
    put_after b σ m e =
        let (c, f, s) = put_means b σ m e in
        let d : framed a.level a.id (normal c) ≡ framed a.level a.id (normal_data a.rule ys) = rw f in
        rw (s, eq-eqb a.id a.id refl) (found_framed a p c ∙ d)

    pub dropped_after : (i : ℕ) (σ : spec.Slot) → SlotMeans ys (Dropped i) σ → i ≡ a.id → attribute_after xs rows σ a ≡ []
    unfolding attribute_after
    dropped_after i spec.kept m e = absurd m
    dropped_after i (spec.put j c) m e = absurd m
    dropped_after i (spec.dropped j) m e = rw (eq-eqb j a.id (sym m ∙ e))

    -- An attribute of another id stays.
    pub beside_put : (b : Attribute) (σ : spec.Slot) → SlotMeans ys (Put b) σ → (b.id ≡ a.id → ⊥) → attribute_after xs rows σ a ≡ attribute_bytes xs rows a
    unfolding attribute_after attribute_bytes
    beside_put b spec.kept m n = absurd m
    beside_put b (spec.put i c) m n = rw (ne_eqb i a.id (λ e. n (m.0 ∙ e)))
    beside_put b (spec.dropped i) m n = absurd m

    pub beside_dropped : (i : ℕ) (σ : spec.Slot) → SlotMeans ys (Dropped i) σ → (i ≡ a.id → ⊥) → attribute_after xs rows σ a ≡ attribute_bytes xs rows a
    unfolding attribute_after attribute_bytes
    beside_dropped i spec.kept m n = absurd m
    beside_dropped i (spec.put j c) m n = absurd m
    beside_dropped i (spec.dropped j) m n = rw (ne_eqb j a.id (λ e. n (m ∙ e)))

    pub all_kept : (σ : spec.Slot) → SlotMeans ys Kept σ → attribute_after xs rows σ a ≡ attribute_bytes xs rows a
    unfolding attribute_after attribute_bytes
    all_kept spec.kept m = refl
    all_kept (spec.put i c) m = absurd m
    all_kept (spec.dropped i) m = absurd m

-- One attribute after another.
pub after_more : (xs : List ℕ) (rows : List AttributeRow) (σ : spec.Slot) (table : List Attribute) (k : ℕ) (d : Attribute) → k < length table
    → attributes_after xs rows σ (drop k table) ≡ attribute_after xs rows σ (get_or table k d) ++ attributes_after xs rows σ (drop (k + 1) table)
unfolding attributes_after attribute_after attribute_entries
after_more xs rows σ table k d h =
    ap (λ t. flat_map write_entry (attribute_entries t (slot_after σ (contents_in xs rows)))) (drop_more table k d h)
    ∙ joined_append write_entry (found (get_or table k d).id (slot_after σ (contents_in xs rows) (get_or table k d).id)) _

pub after_none : (xs : List ℕ) (rows : List AttributeRow) (σ : spec.Slot) (table : List Attribute) (k : ℕ) → length table ≤ k
    → attributes_after xs rows σ (drop k table) ≡ []
unfolding attributes_after attribute_entries
after_none xs rows σ table k h = ap (attributes_after xs rows σ) (drop_all k table h)
