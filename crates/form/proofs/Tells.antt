-- What rows tell of a target is what its entries tell.
use Rattle.std.proofs.Common.{◌≡◌, ℕ, Bool, true, false, cond, eqb, List, [], ◌∷◌, ◌++◌, map, is_some, Some, None, Option, sym, refl, ap, ◌∙◌, inl, inr, append_assoc, arith}
use Rattle.std.specs.List.{flat_map, AllByRecursion}
use Rattle.std.proofs.ByRecursion.{All-weaker}
use Rattle.std.proofs.lemmas.Bool.{cases_eq, both_ways, eqb-true, eq-eqb, ne_eqb}
use Rattle.attribute.specs.Table.{attribute, attributes, attribute_of, code_page_id, message_attributes, attachment_attributes, rendering_attribute, rendering_id, recipients_id, message_properties_id, attachment_properties_id}
use Rattle.attribute.specs.declared.Attribute.{Attribute}
use Rattle.attribute.specs.declared.Rule.TheVariants as rule
use Rattle.frame.proofs.Placing.{find_id}
use Rattle.contents.specs.Contents.{Contents}
use Rattle.index.specs.declared.attributes.AttributeRow.{AttributeRow}
use Rattle.stream.specs.Reading.{Meant, version, primary, contents, list, table, Nature, plain, opening, page, rows, properties, nature, Entry}
use Rattle.stream.specs.Messages.{or_else, as_contents, as_list, as_table, first, contents_under, properties_of, rows_of, holding_of, message_part}
use Rattle.stream.specs.Writing.{level_in, write_entry, found, attribute_entries, list_entries, table_entries, attachment_entries}
use Rattle.form.specs.Targets.{rule_in, row_entry, entry_under, own_part, Gathered}
use Rattle.form.specs.Holdings.{Natured, Plain, contents_in, attribute_bytes, told_by, told_in, table_bytes, list_bytes, message_bytes, attachment_bytes}
use Rattle.form.proofs.Holds.{joined_append}
use Rattle.form.proofs.Natures.{nature_in, nature_of, level_of, Apt, rows_apt, find_every}

-- The first entry that tells is the one under an id, where those under it tell and the others do not.
module _ {A : Type 0} (g : Meant → Option A) (i : ℕ) where
  under_tells : (es : List Entry) → AllByRecursion (λ e. e.id ≡ i → is_some (g e.meant) ≡ true) es
      → first (λ e. cond (eqb e.id i) (g e.meant) None) es ≡ told_by g (entry_under i es)
  unfolding first
  under_tells [] h = refl
  under_tells (e ∷ es) h = elim (cases_eq e.id i) [
    | inl d ↦ rw (eq-eqb e.id i d) (settled (g e.meant) _ (h.0 d))
    | inr n ↦ rw (ne_eqb e.id i n) (under_tells es h.1)
  ]
    where
      settled : (o u : Option A) → is_some o ≡ true → or_else o u ≡ o
      settled (Some a) u t = refl
      settled None u t = absurd (both_ways false refl t)

  only_under : (es : List Entry) → AllByRecursion (λ e. (e.id ≡ i → ⊥) → g e.meant ≡ None) es
      → first (λ e. g e.meant) es ≡ first (λ e. cond (eqb e.id i) (g e.meant) None) es
  unfolding first
  only_under [] h = refl
  only_under (e ∷ es) h = elim (cases_eq e.id i) [
    | inl d ↦ rw (eq-eqb e.id i d, only_under es h.1)
    | inr n ↦ rw (ne_eqb e.id i n, h.0 n) (only_under es h.1)
  ]

-- What is told, by the kind of what is meant.
tells_contents : (m : Meant) → nature_in m ≡ plain → is_some (as_contents m) ≡ true
tells_contents (contents c) e = refl
tells_contents version e = let z : ◌≡◌ {A = ℕ} 0 1 = cc in absurd (omega arith)
tells_contents (primary n) e = let z : ◌≡◌ {A = ℕ} 0 1 = cc in absurd (omega arith)
tells_contents (list ps) e = let z : ◌≡◌ {A = ℕ} 0 1 = cc in absurd (omega arith)
tells_contents (table rs) e = let z : ◌≡◌ {A = ℕ} 0 1 = cc in absurd (omega arith)

tells_list : (m : Meant) → nature_in m ≡ properties → is_some (as_list m) ≡ true
tells_list (list ps) e = refl
tells_list version e = let z : ◌≡◌ {A = ℕ} 0 1 = cc in absurd (omega arith)
tells_list (primary n) e = let z : ◌≡◌ {A = ℕ} 0 1 = cc in absurd (omega arith)
tells_list (contents c) e = let z : ◌≡◌ {A = ℕ} 0 1 = cc in absurd (omega arith)
tells_list (table rs) e = let z : ◌≡◌ {A = ℕ} 0 1 = cc in absurd (omega arith)

tells_table : (m : Meant) → nature_in m ≡ rows → is_some (as_table m) ≡ true
tells_table (table rs) e = refl
tells_table version e = let z : ◌≡◌ {A = ℕ} 0 1 = cc in absurd (omega arith)
tells_table (primary n) e = let z : ◌≡◌ {A = ℕ} 0 1 = cc in absurd (omega arith)
tells_table (contents c) e = let z : ◌≡◌ {A = ℕ} 0 1 = cc in absurd (omega arith)
tells_table (list ps) e = let z : ◌≡◌ {A = ℕ} 0 1 = cc in absurd (omega arith)

no_list : (m : Meant) → (nature_in m ≡ properties → ⊥) → as_list m ≡ None
no_list (list ps) n = absurd (n refl)
no_list version n = refl
no_list (primary k) n = refl
no_list (contents c) n = refl
no_list (table rs) n = refl

no_table : (m : Meant) → (nature_in m ≡ rows → ⊥) → as_table m ≡ None
no_table (table rs) n = absurd (n refl)
no_table version n = refl
no_table (primary k) n = refl
no_table (contents c) n = refl
no_table (list ps) n = refl

-- The ids of lists and of the table.
abbrev pub list_id : ℕ → ℕ
list_id l = cond (eqb l 1) message_properties_id attachment_properties_id

by_list : Nature → Bool → Bool
by_list properties b = b
by_list plain b = true
by_list opening b = true
by_list page b = true
by_list rows b = true

by_table : Nature → Bool → Bool
by_table rows b = b
by_table plain b = true
by_table opening b = true
by_table page b = true
by_table properties b = true

list_test : Attribute → Bool
list_test a = by_list (nature a.rule) (eqb a.id (list_id a.level))

table_test : Attribute → Bool
table_test a = by_table (nature a.rule) (eqb a.id recipients_id)

listed : (i : ℕ) (o : Option Attribute) → attribute_of i ≡ o → nature (rule_in o) ≡ properties → i ≡ list_id (level_in o)
unfolding attribute_of list_test by_list
listed i None e n = let z : ◌≡◌ {A = ℕ} 0 1 = cc in absurd (omega arith)
listed i (Some a) e n =
    let t : by_list (nature a.rule) (eqb a.id (list_id a.level)) ≡ true = find_every list_test attributes i a refl e in
    let u : eqb a.id (list_id a.level) ≡ true = rw n at t in
    sym (find_id attributes i a e) ∙ eqb-true a.id (list_id a.level) u

tabled : (i : ℕ) (o : Option Attribute) → attribute_of i ≡ o → nature (rule_in o) ≡ rows → i ≡ recipients_id
unfolding attribute_of table_test by_table
tabled i None e n = let z : ◌≡◌ {A = ℕ} 0 1 = cc in absurd (omega arith)
tabled i (Some a) e n =
    let t : by_table (nature a.rule) (eqb a.id recipients_id) ≡ true = find_every table_test attributes i a refl e in
    let u : eqb a.id recipients_id ≡ true = rw n at t in
    sym (find_id attributes i a e) ∙ eqb-true a.id recipients_id u

recipients_nature : nature_of recipients_id ≡ rows
unfolding attribute_of
recipients_nature = refl

both_all : {X : Type 0} (P Q : X → Type 0) (xs : List X) → AllByRecursion P xs → AllByRecursion Q xs → AllByRecursion (λ x. P x × Q x) xs
both_all P Q [] p q = tt
both_all P Q (x ∷ xs) p q = ((p.0, q.0), both_all P Q xs p.1 q.1)

-- Entries whose meaning is of the kind that their ids have.
module _ (es : List Entry) (apt : AllByRecursion Apt es) where
  contents_told : (a : Attribute) → Plain a → first (contents_under a.id) es ≡ told_by as_contents (entry_under a.id es)
  contents_told a p =
      under_tells as_contents a.id es
      (All-weaker Apt _ (λ e h d. tells_contents e.meant (h ∙ ap nature_of d ∙ ap (λ o. nature (rule_in o)) p.known ∙ p.kind)) es apt)

  table_told : first (λ e. as_table e.meant) es ≡ told_by as_table (entry_under recipients_id es)
  table_told =
      only_under as_table recipients_id es (All-weaker Apt _ (λ e h n. no_table e.meant (λ k. n (tabled e.id _ refl (sym h ∙ k)))) es apt)
      ∙ under_tells as_table recipients_id es (All-weaker Apt _ (λ e h d. tells_table e.meant (h ∙ ap nature_of d ∙ recipients_nature)) es apt)

  list_told : (l : ℕ) → nature_of (list_id l) ≡ properties → AllByRecursion (λ e. level_of e.id ≡ l) es
      → first (λ e. as_list e.meant) es ≡ told_by as_list (entry_under (list_id l) es)
  list_told l k level =
      only_under as_list (list_id l) es
      (All-weaker _ _ (λ e h n. no_list e.meant (λ q. n (listed e.id _ refl (sym h.0 ∙ q) ∙ ap list_id h.1))) es (both_all Apt _ es apt level))
      ∙ under_tells as_list (list_id l) es (All-weaker Apt _ (λ e h d. tells_list e.meant (h ∙ ap nature_of d ∙ k)) es apt)

-- What holds of all entries holds of a target's.
part_all : (P : Entry → Type 0) (es : List Entry) → AllByRecursion P es → AllByRecursion P (message_part es)
unfolding message_part
part_all P [] h = tt
part_all P (e ∷ es) h = elim (cases_eq e.id rendering_id) [
  | inl d ↦ rw (eq-eqb e.id rendering_id d) tt
  | inr n ↦ rw (ne_eqb e.id rendering_id n) (h.0, part_all P es h.1)
]

pub own_all : (P : Entry → Type 0) (es : List Entry) → AllByRecursion P es → AllByRecursion P (own_part es)
unfolding own_part
own_all P [] h = tt
own_all P (e ∷ es) h = (h.0, part_all P es h.1)

pub attributes_same : (all : List Attribute) (f h : ℕ → Option Contents) → AllByRecursion (λ a. f a.id ≡ h a.id) all → attribute_entries all f ≡ attribute_entries all h
unfolding attribute_entries
attributes_same [] f h e = refl
attributes_same (a ∷ rest) f h e = rw (e.0, attributes_same rest f h e.1)

-- The tables of attributes have contents.
plainly : {a : Attribute} → attribute_of a.id ≡ Some a → nature a.rule ≡ plain → Plain a
plainly k n = record { known = k; kind = n }

pub message_plain : AllByRecursion Plain message_attributes
unfolding attribute_of
message_plain = (plainly refl refl, (plainly refl refl, (plainly refl refl, (plainly refl refl, (plainly refl refl, (plainly refl refl, (plainly refl refl, (plainly refl refl, (plainly refl refl, (plainly refl refl, (plainly refl refl, (plainly refl refl, (plainly refl refl, (plainly refl refl, (plainly refl refl, (plainly refl refl, (plainly refl refl, (plainly refl refl, tt))))))))))))))))))

pub attachment_plain : AllByRecursion Plain attachment_attributes
unfolding attribute_of
attachment_plain = (plainly refl refl, (plainly refl refl, (plainly refl refl, (plainly refl refl, (plainly refl refl, (plainly refl refl, tt))))))

pub recipients_known : Natured rows (attribute recipients_id 1 rule.Recipients)
unfolding attribute_of
recipients_known = record { known = refl; kind = refl }

pub message_listed : Natured properties (attribute message_properties_id 1 rule.Properties)
unfolding attribute_of
message_listed = record { known = refl; kind = refl }

pub attachment_listed : Natured properties (attribute attachment_properties_id 2 rule.Properties)
unfolding attribute_of
attachment_listed = record { known = refl; kind = refl }

pub page_known : Natured page (attribute code_page_id 1 rule.CodePage)
unfolding attribute_of
page_known = record { known = refl; kind = refl }

pub rendering_plain : Plain rendering_attribute
unfolding attribute_of
rendering_plain = record { known = refl; kind = refl }

pub three_joined : (a b c : List Entry) → flat_map write_entry (a ++ (b ++ c)) ≡ flat_map write_entry a ++ (flat_map write_entry b ++ flat_map write_entry c)
three_joined a b c = joined_append write_entry a (b ++ c) ∙ ap (λ t. flat_map write_entry a ++ t) (joined_append write_entry b c)

pub target_joined : (a : Attribute) (all : List Attribute) (f : ℕ → Option Contents) (l : List Entry)
    → flat_map write_entry (attribute_entries (a ∷ all) f ++ l)
    ≡ flat_map write_entry (found a.id (f a.id)) ++ (flat_map write_entry (attribute_entries all f) ++ flat_map write_entry l)
unfolding attribute_entries
target_joined a all f l =
    ap (flat_map write_entry) (append_assoc (found a.id (f a.id)) (attribute_entries all f) l)
    ∙ joined_append write_entry (found a.id (f a.id)) _
    ∙ ap (λ t. flat_map write_entry (found a.id (f a.id)) ++ t) (joined_append write_entry (attribute_entries all f) l)

-- Rows that were gathered of a target.
module _ (xs : List ℕ) (es : List Entry) (rs : List AttributeRow) (g : Gathered xs es rs) (apt : AllByRecursion Apt es) where
  pub contents_same : (a : Attribute) → Plain a → contents_in xs rs a.id ≡ first (contents_under a.id) es
  contents_same a p =
      contents_told (map (row_entry xs) rs) (rows_apt xs rs g.sound) a p ∙ ap (told_by as_contents) (g.held a.id) ∙ sym (contents_told es apt a p)

  pub table_same : told_in as_table recipients_id xs rs ≡ first (λ e. as_table e.meant) es
  table_same = ap (told_by as_table) (g.held recipients_id) ∙ sym (table_told es apt)

  pub list_same : (l : ℕ) → nature_of (list_id l) ≡ properties → AllByRecursion (λ e. level_of e.id ≡ l) es → told_in as_list (list_id l) xs rs ≡ first (λ e. as_list e.meant) es
  list_same l k level = ap (told_by as_list) (g.held (list_id l)) ∙ sym (list_told es apt l k level)

  all_same : (all : List Attribute) → AllByRecursion Plain all → attribute_entries all (contents_in xs rs) ≡ attribute_entries all (λ i. first (contents_under i) es)
  all_same all p = attributes_same all _ _ (All-weaker Plain _ (λ a h. contents_same a h) all p)

  -- The frames of a message.
  pub message_same : AllByRecursion (λ e. level_of e.id ≡ 1) es
      → message_bytes xs rs ≡ flat_map write_entry (attribute_entries message_attributes (λ i. first (contents_under i) es)
      ++ (table_entries (rows_of es) ++ list_entries message_properties_id (properties_of es)))
  unfolding message_bytes table_bytes list_bytes rows_of properties_of attribute_of
  message_same level =
      rw (all_same message_attributes message_plain, table_same, list_same 1 refl level)
      (sym (three_joined (attribute_entries message_attributes (λ i. first (contents_under i) es)) (table_entries (rows_of es)) (list_entries message_properties_id (properties_of es))))

  -- The frames of an attachment.
  pub attachment_same : AllByRecursion (λ e. level_of e.id ≡ 2) es → attachment_bytes xs rs ≡ flat_map write_entry (attachment_entries (holding_of es))
  unfolding attachment_bytes attribute_bytes list_bytes properties_of attribute_of
  attachment_same level =
      rw (contents_same rendering_attribute rendering_plain, all_same attachment_attributes attachment_plain, list_same 2 refl level)
      (sym (target_joined rendering_attribute attachment_attributes (λ i. first (contents_under i) es) _))
