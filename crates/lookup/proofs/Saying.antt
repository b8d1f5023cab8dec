-- The rows that were gathered say what a target holds.
use Rattle.std.proofs.Common.{◌≡◌, ℕ, ◌<◌, List, [], ◌∷◌, map, length, Some, None, Option, sym, refl, ap, ◌∙◌, inl, inr, arith}
use Rattle.std.specs.List.{AllByRecursion}
use Rattle.std.proofs.lemmas.Bool.{cases_eq, eq-eqb, ne_eqb}
use Rattle.attribute.specs.Table.{attribute, attribute_of, recipients_id, attachment_properties_id}
use Rattle.attribute.specs.declared.Attribute.{Attribute}
use Rattle.attribute.specs.declared.Rule.TheVariants.{Recipients}
use Rattle.frame.specs.declared.stages.Stage.{Stage}
use Rattle.frame.specs.declared.stages.Stage.TheVariants.{Version}
use Rattle.contents.specs.Contents.{normal}
use Rattle.index.specs.declared.attributes.AttributeRow.{AttributeRow}
use Rattle.property.specs.Lists.{Property, indexed}
use Rattle.stream.specs.Messages.{Holding, or_default, first, contents_under, as_list, as_table, properties_of, rows_of, holding_of}
use Rattle.stream.specs.Writing.{entry_data}
use Rattle.message.specs.Sameness.{contents_held}
use Rattle.form.specs.Targets.{Standing, remaining, Readable, own_part, row_under, AsWritten, NormalRow, Taken, StaysWritten}
use Rattle.form.specs.Holdings.{Plain, told_by, told_in}
use Rattle.form.specs.Wholes.{Rendered}
use Rattle.form.proofs.Natures.{level_of, Apt, all_apt, own_levels}
use Rattle.form.proofs.Holds.{plain_row, held_some, held_none}
use Rattle.form.proofs.Found.{TableHeld, row_found, row_lost, table_held}
use Rattle.form.proofs.Tells.{recipients_known, own_all, contents_same, table_same, list_same}
use Rattle.form.proofs.Beginnings.{head, rendering_level}
use Rattle.form.proofs.Forms.{own_is, own_level, page_told}
use Rattle.lookup.specs.Finding.{table_in, Says, SaysMessage, ContentsStand, NormalStand}

module _ (xs : List ℕ) where
  pub says_message : (rows : List AttributeRow) (q : ℕ) (t : Stage) → Readable xs 6 Version → Taken xs 6 Version rows q t → StaysWritten xs 6 Version rows q t → SaysMessage xs rows
  unfolding properties_of rows_of attribute_of
  says_message rows q t g k b =
      let es = own_part (remaining xs 6 Version) in
      let same = sym (own_is xs rows q t g k) in
      let apt = own_all Apt _ (all_apt xs _ 6 Version g refl) in
      record {
        own = record {
          sound = k.gathered.sound;
          attributes = λ a p. contents_same xs es rows k.gathered apt a p ∙ ap (first (contents_under a.id)) same;
          properties = ap (λ o. indexed (or_default o [])) (list_same xs es rows k.gathered apt 1 refl (own_level xs rows q t g k) ∙ ap (first (λ e. as_list e.meant)) same);
          normal = b.normal;
        };
        page = let (n, a, b) = page_told xs rows q t g k in ap (λ o. or_default o 0) a ∙ sym b;
        table = ap (λ o. map indexed (or_default o [])) (table_same xs es rows k.gathered apt ∙ ap (first (λ e. as_table e.meant)) same);
      }

  pub says_attachment : (p : ℕ) (s : Stage) (rows : List AttributeRow) (q : ℕ) (t : Stage) → Readable xs p s → Rendered (remaining xs p s) → p < length xs
      → (AsWritten xs 6 Version → AsWritten xs p s) → Taken xs p s rows q t → StaysWritten xs p s rows q t → Says xs rows attachment_properties_id (holding_of (own_part (remaining xs p s)))
  unfolding properties_of attribute_of
  says_attachment p s rows q t g r h w k b =
      let (e, es, m, d) = head xs p s g r h in
      let level = own_levels xs p s e es g m in
      let two : level_of e.id ≡ 2 = ap level_of d ∙ rendering_level xs p s g r h in
      let l : AllByRecursion (λ x. level_of x.id ≡ 2) (own_part (remaining xs p s)) = rw m (rw two at level) in
      let apt = own_all Apt _ (all_apt xs _ p s g refl) in
      record {
        sound = k.gathered.sound;
        attributes = λ a n. contents_same xs (own_part (remaining xs p s)) rows k.gathered apt a n;
        properties = ap (λ o. indexed (or_default o [])) (list_same xs (own_part (remaining xs p s)) rows k.gathered apt 2 refl l);
        normal = λ a. b.normal (w a);
      }

  -- The table and the list under an id, where their row is found and where it is not.
  module _ (rows : List AttributeRow) where
    pub recipients_held : AllByRecursion (Standing xs) rows → (r : AttributeRow) → Some r ≡ row_under recipients_id rows
        → (ts : List (List Property)) × TableHeld xs rows r ts
    recipients_held sound r e = table_held xs rows sound (attribute recipients_id 1 Recipients) r e recipients_known refl

    pub table_told : (ts : List (List Property)) → told_in as_table recipients_id xs rows ≡ Some ts → table_in xs rows ≡ ts
    table_told ts e = ap (λ o. or_default o []) e

    pub table_lost : None ≡ row_under recipients_id rows → table_in xs rows ≡ []
    table_lost e = ap (λ o. or_default (told_by as_table o) []) (row_lost xs recipients_id rows e)

  -- The row under an attribute's id is where its contents stand.
  pub says_contents : (rows : List AttributeRow) (i : ℕ) (h : Holding) → Says xs rows i h → (a : Attribute) → Plain a → (r : Option AttributeRow)
      → r ≡ row_under a.id rows → ContentsStand xs a (h.attributes a.id) r
  says_contents rows i h s a p None e = sym (s.attributes a p) ∙ held_none xs a p rows e
  says_contents rows i h s a p (Some r) e =
      let (c, k, m, w) = held_some xs a p rows r s.sound e in
      (c, sym (s.attributes a p) ∙ k, record { id = (row_found xs a.id rows r s.sound e).0; within = w; means = m })

  pub says_held : (rows : List AttributeRow) (i : ℕ) (o : Option Holding) (h : Holding) → o ≡ Some h → Says xs rows i h → (a : Attribute) → Plain a → (r : Option AttributeRow)
      → r ≡ row_under a.id rows → ContentsStand xs a (contents_held o a.id) r
  says_held rows i o h e s a p r u = rw e (says_contents rows i h s a p r u)

  -- Its data are normal where the stream is as it is written.
  row_all : (P : AttributeRow → Type 0) (i : ℕ) (rows : List AttributeRow) (r : AttributeRow) → AllByRecursion P rows → Some r ≡ row_under i rows → P r
  row_all P i [] r h e = let z : ◌≡◌ {A = ℕ} 0 1 = cc in absurd (omega arith)
  row_all P i (q ∷ rows) r h e = elim (cases_eq q.id i) [
    | inl d ↦
        let f : Some r ≡ Some q = e ∙ rw (eq-eqb q.id i d) in
        let same : r ≡ q = cc in
        rw same h.0
    | inr n ↦ row_all P i rows r h.1 (e ∙ rw (ne_eqb q.id i n))
  ]

  pub says_normal : (rows : List AttributeRow) (i : ℕ) (o : Option Holding) (h : Holding) → o ≡ Some h → Says xs rows i h → AsWritten xs 6 Version → (a : Attribute) → Plain a
      → (r : Option AttributeRow) → r ≡ row_under a.id rows → NormalStand xs (contents_held o a.id) r
  says_normal rows i o h e s w a p None u = tt
  says_normal rows i o h e s w a p (Some r) u =
      let (d, k, m) = says_held rows i o h e s a p (Some r) u in
      let (j, stands, _) = row_found xs a.id rows r s.sound u in
      let (c, n, meant) = plain_row xs a p r j stands in
      let same : c ≡ d = let x : Some c ≡ Some d = sym n ∙ m.means in cc in
      (d, k, row_all (NormalRow xs) a.id rows r (s.normal w) u ∙ ap entry_data meant ∙ ap normal same)
