-- The row under an id, and the list or table that its data mean.
use Rattle.std.proofs.Common.{◌≡◌, ℕ, zero, suc, ◌+◌, ◌≤◌, false, eqb, leb, List, [], ◌∷◌, ◌++◌, map, length, Some, None, Ok, fold, sym, refl, ap, ◌∙◌, inl, inr, append-nil, arith}
use Rattle.std.specs.List.{flat_map, AllByRecursion}
use Rattle.std.proofs.lemmas.Bool.{cases_eq, cases_Bool, eq-eqb, ne_eqb, leb-true}
use Rattle.source.specs.Bytes.{part, val}
use Rattle.source.specs.Outcome.{Outcome, ◌>>=◌, ◌>>◌, need}
use Rattle.source.specs.declared.refusals.Reason.TheVariants.{FieldEnd, Limit, LeftOver}
use Rattle.source.proofs.Outcomes.{ok_same, need_got, bind_got, then_got, over_got}
use Rattle.attribute.specs.Table.{attribute_of, recipients_id}
use Rattle.attribute.specs.declared.Attribute.{Attribute}
use Rattle.attribute.specs.declared.Rule.{Rule}
use Rattle.index.specs.declared.attributes.AttributeRow.{AttributeRow}
use Rattle.index.specs.Rows.{has, added}
use Rattle.property.specs.Fields.{At, field, number_at, repeated, whole}
use Rattle.property.specs.Lists.{Property, property_at, list_at, table_at, property_list, recipient_table, list_limit, row_limit, same_property, indexed}
use Rattle.property.specs.Writing.{write_list, write_table}
use Rattle.stream.specs.Reading.{Meant, list, table, Nature, rows, properties, nature, meant_as}
use Rattle.stream.specs.Messages.{or_default, as_list, as_table}
use Rattle.stream.specs.Writing.{level_in, write_entry, list_entries, table_entries}
use Rattle.form.specs.Framing.{framed}
use Rattle.form.specs.Targets.{rule_in, row_meant, or_version, row_entry, Standing, row_under, entry_under}
use Rattle.form.specs.Holdings.{Natured, told_by, told_in, list_bytes, table_bytes}

module _ (xs : List ℕ) (i : ℕ) where
  pub row_found : (rs : List AttributeRow) (r : AttributeRow) → AllByRecursion (Standing xs) rs → Some r ≡ row_under i rs
      → (r.id ≡ i) × Standing xs r × (entry_under i (map (row_entry xs) rs) ≡ Some (row_entry xs r))
  unfolding row_entry
  row_found [] r s e = let z : ◌≡◌ {A = ℕ} 0 1 = cc in absurd (omega arith)
  row_found (q ∷ rs) r s e = elim (cases_eq q.id i) [
    | inl d ↦
        let f : Some r ≡ Some q = e ∙ rw (eq-eqb q.id i d) in
        let same : r ≡ q = cc in
        rw same (d, s.0, rw (eq-eqb q.id i d))
    | inr n ↦
        let (a, b, c) = row_found rs r s.1 (e ∙ rw (ne_eqb q.id i n)) in
        (a, b, passed q rs n ∙ c)
  ]
    where
      passed : (q : AttributeRow) (rs : List AttributeRow) → (q.id ≡ i → ⊥)
          → entry_under i (map (row_entry xs) (q ∷ rs)) ≡ entry_under i (map (row_entry xs) rs)
      passed q rs n = rw (ne_eqb q.id i n)

  pub row_lost : (rs : List AttributeRow) → None ≡ row_under i rs → entry_under i (map (row_entry xs) rs) ≡ None
  unfolding row_entry
  row_lost [] e = refl
  row_lost (q ∷ rs) e = elim (cases_eq q.id i) [
    | inl d ↦
        let f : None ≡ Some q = e ∙ rw (eq-eqb q.id i d) in
        let z : ◌≡◌ {A = ℕ} 0 1 = cc in
        absurd (omega arith)
    | inr n ↦ rw (ne_eqb q.id i n) (row_lost rs (e ∙ rw (ne_eqb q.id i n)))
  ]

-- What a row means, where its id is an attribute's.
pub row_means : (xs : List ℕ) (a : Attribute) (r : AttributeRow) → attribute_of a.id ≡ Some a → r.id ≡ a.id
    → row_meant xs r ≡ meant_as (nature a.rule) a.rule xs r.place r.size
unfolding row_meant
row_means xs a r k e = ap (λ ρ. meant_as (nature ρ) ρ xs r.place r.size) (ap (λ i. rule_in (attribute_of i)) e ∙ ap rule_in k)

-- A count stands before what it counts.
repeats : {A : Type 0} (read : ℕ → Outcome (At A)) (n p : ℕ) (a : At (List A)) → Ok a ≡ repeated read n p → length a.what ≡ n
unfolding repeated
repeats read zero p a e = ap (λ x. length x.what) (ok_same a _ e)
repeats read (suc n) p a e =
    let (b, _, f) = bind_got (read p) _ a e in
    let (c, g, h) = bind_got (repeated read n b.next) _ a f in
    ap (λ x. length x.what) (ok_same a _ h) ∙ ap suc (repeats read n b.next c g)

number_counts : (xs : List ℕ) (end p n : ℕ) → Ok n ≡ number_at xs end p p 4 → (p + 4 ≤ end) × (n ≡ val (part xs p 4))
unfolding number_at field ◌>>◌
number_counts xs end p n e =
    let (ys, f, v) = over_got val (field xs end p p 4) n e in
    let (u, t, d) = then_got (need (leb (p + 4) end) FieldEnd p) (Ok (part xs p 4)) ys f in
    (leb-true (p + 4) end (need_got (leb (p + 4) end) FieldEnd p u t), v ∙ ap val (ok_same ys _ d))

whole_is : {A : Type 0} (end : ℕ) (a : At A) (b : A) → Ok b ≡ whole end a → b ≡ a.what
unfolding whole ◌>>◌
whole_is end a b e = let (_, _, d) = then_got (need (eqb a.next end) LeftOver a.next) (Ok a.what) b e in ok_same b _ d

pub list_counted : (xs : List ℕ) (base end : ℕ) (ps : List Property) → property_list xs base end ≡ Ok ps → (base + 4 ≤ end) × (val (part xs base 4) ≡ length ps)
unfolding property_list list_at ◌>>=◌ ◌>>◌
list_counted xs base end ps e =
    let (a, la, w) = bind_got (list_at xs end base) (λ a. whole end a) ps (sym e) in
    let (n, na, q) = bind_got (number_at xs end base base 4) (λ n. need (leb n list_limit) Limit base >> repeated (property_at xs end) n (base + 4)) a la in
    let (_, _, h) = then_got (need (leb n list_limit) Limit base) (repeated (property_at xs end) n (base + 4)) a q in
    let (b, v) = number_counts xs end base n na in
    (b, sym v ∙ sym (repeats (property_at xs end) n (base + 4) a h) ∙ ap length (sym (whole_is end a ps w)))

pub table_counted : (xs : List ℕ) (base end : ℕ) (rs : List (List Property)) → recipient_table xs base end ≡ Ok rs → (base + 4 ≤ end) × (val (part xs base 4) ≡ length rs)
unfolding recipient_table table_at ◌>>=◌ ◌>>◌
table_counted xs base end rs e =
    let (a, la, w) = bind_got (table_at xs end base) (λ a. whole end a) rs (sym e) in
    let (n, na, q) = bind_got (number_at xs end base base 4) (λ n. need (leb n row_limit) Limit base >> repeated (list_at xs end) n (base + 4)) a la in
    let (_, _, h) = then_got (need (leb n row_limit) Limit base) (repeated (list_at xs end) n (base + 4)) a q in
    let (b, v) = number_counts xs end base n na in
    (b, sym v ∙ sym (repeats (list_at xs end) n (base + 4) a h) ∙ ap length (sym (whole_is end a rs w)))

-- The index of a list that is not empty is not empty.
added_front : (q p : Property) (ps : List Property) → (rest : List Property) × (added same_property false (q ∷ ps) p ≡ q ∷ rest)
added_front q p ps = elim (cases_Bool (has same_property (q ∷ ps) p)) [
  | inl t ↦ (ps, rw t)
  | inr f ↦ (ps ++ p ∷ [], rw f)
]

folded_front : (q : Property) (done ps : List Property) → (rest : List Property) × (fold (added same_property false) (q ∷ done) ps ≡ q ∷ rest)
folded_front q done [] = (done, refl)
folded_front q done (p ∷ ps) =
    let (more, e) = added_front q p done in
    let (rest, f) = folded_front q more ps in
    (rest, ap (λ l. fold (added same_property false) l ps) e ∙ f)

indexed_front : (p : Property) (ps : List Property) → (rest : List Property) × (indexed (p ∷ ps) ≡ p ∷ rest)
indexed_front p ps = folded_front p [] ps

-- The frames of a list and of a table.
module _ (a : Attribute) (known : attribute_of a.id ≡ Some a) where
  list_framed : (ps : List Property) → (length ps ≡ 0 → ⊥) → flat_map write_entry (list_entries a.id (indexed ps)) ≡ framed a.level a.id (write_list (indexed ps))
  unfolding write_entry framed
  list_framed [] n = absurd (n refl)
  list_framed (p ∷ ps) n =
      let (rest, e) = indexed_front p ps in
      rw e (append-nil _ ∙ ap (λ o. framed (level_in o) a.id (write_list (p ∷ rest))) known)

list_empty : (i : ℕ) (ps : List Property) → length ps ≡ 0 → flat_map write_entry (list_entries i (indexed ps)) ≡ []
list_empty i [] e = refl
list_empty i (p ∷ ps) e = absurd (omega arith)

table_framed : (rs : List (List Property)) → (length rs ≡ 0 → ⊥)
    → flat_map write_entry (table_entries (map indexed rs)) ≡ framed 1 recipients_id (write_table (map indexed rs))
unfolding write_entry framed attribute_of
table_framed [] n = absurd (n refl)
table_framed (r ∷ rs) n = append-nil _

table_empty : (rs : List (List Property)) → length rs ≡ 0 → flat_map write_entry (table_entries (map indexed rs)) ≡ []
table_empty [] e = refl
table_empty (r ∷ rs) e = absurd (omega arith)

meant_list : (n : Nature) (ρ : Rule) (xs : List ℕ) (base size : ℕ) (m : Meant) → n ≡ properties → meant_as n ρ xs base size ≡ Ok m
    → (ps : List Property) × (property_list xs base (base + size) ≡ Ok ps) × (m ≡ list ps)
unfolding meant_as
meant_list n ρ xs base size m e f =
    let (ps, g, h) = over_got list (property_list xs base (base + size)) m (sym (rw e at f)) in (ps, sym g, h)

meant_table : (n : Nature) (ρ : Rule) (xs : List ℕ) (base size : ℕ) (m : Meant) → n ≡ rows → meant_as n ρ xs base size ≡ Ok m
    → (rs : List (List Property)) × (recipient_table xs base (base + size) ≡ Ok rs) × (m ≡ table rs)
unfolding meant_as
meant_table n ρ xs base size m e f =
    let (rs, g, h) = over_got table (recipient_table xs base (base + size)) m (sym (rw e at f)) in (rs, sym g, h)

-- The list under an attribute's id.
pub record ListHeld (xs : List ℕ) (rs : List AttributeRow) (a : Attribute) (r : AttributeRow) (ps : List Property) : Type 0 where
  pub reads : property_list xs r.place (r.place + r.size) ≡ Ok ps
  pub within : r.place + r.size ≤ length xs
  pub counted : val (part xs r.place 4) ≡ length ps
  pub room : r.place + 4 ≤ length xs
  pub told : told_in as_list a.id xs rs ≡ Some ps

pub record TableHeld (xs : List ℕ) (rs : List AttributeRow) (r : AttributeRow) (ts : List (List Property)) : Type 0 where
  pub reads : recipient_table xs r.place (r.place + r.size) ≡ Ok ts
  pub within : r.place + r.size ≤ length xs
  pub counted : val (part xs r.place 4) ≡ length ts
  pub room : r.place + 4 ≤ length xs
  pub told : told_in as_table recipients_id xs rs ≡ Some ts

module _ (xs : List ℕ) (rs : List AttributeRow) (sound : AllByRecursion (Standing xs) rs) (a : Attribute) (r : AttributeRow) (e : Some r ≡ row_under a.id rs) where
  pub list_held : Natured properties a → (ps : List Property) × ListHeld xs rs a r ps
  unfolding row_entry
  list_held p =
      let (i, s, u) = row_found xs a.id rs r sound e in
      let (ps, f, m) = meant_list (nature a.rule) a.rule xs r.place r.size (or_version (row_meant xs r)) p.kind (sym (row_means xs a r p.known i) ∙ s.reads) in
      let (b, k) = list_counted xs r.place (r.place + r.size) ps f in
      (ps, record { reads = f; within = s.within; counted = k; room = omega (arith, s.within); told = ap (told_by as_list) u ∙ ap as_list m })

  pub table_held : Natured rows a → a.id ≡ recipients_id → (ts : List (List Property)) × TableHeld xs rs r ts
  unfolding row_entry
  table_held p q =
      let (i, s, u) = row_found xs a.id rs r sound e in
      let (ts, f, m) = meant_table (nature a.rule) a.rule xs r.place r.size (or_version (row_meant xs r)) p.kind (sym (row_means xs a r p.known i) ∙ s.reads) in
      let (b, k) = table_counted xs r.place (r.place + r.size) ts f in
      let t : told_in as_table recipients_id xs rs ≡ Some ts = ap (λ j. told_in as_table j xs rs) (sym q) ∙ ap (told_by as_table) u ∙ ap as_table m in
      (ts, record { reads = f; within = s.within; counted = k; room = omega (arith, s.within); told = t })

-- The frame of a list, where there is one.
module _ (xs : List ℕ) (rs : List AttributeRow) (a : Attribute) where
  pub list_absent : None ≡ row_under a.id rs → list_bytes xs rs a.id ≡ []
  unfolding list_bytes
  list_absent e = ap (λ o. flat_map write_entry (list_entries a.id (indexed (or_default (told_by as_list o) [])))) (row_lost xs a.id rs e)

  pub list_short : (r : AttributeRow) (ps : List Property) → ListHeld xs rs a r ps → val (part xs r.place 4) ≡ 0 → list_bytes xs rs a.id ≡ []
  unfolding list_bytes
  list_short r ps h z =
      ap (λ o. flat_map write_entry (list_entries a.id (indexed (or_default o [])))) h.told ∙ list_empty a.id ps (sym h.counted ∙ z)

  pub list_long : (r : AttributeRow) (ps : List Property) → attribute_of a.id ≡ Some a → ListHeld xs rs a r ps → (val (part xs r.place 4) ≡ 0 → ⊥)
      → list_bytes xs rs a.id ≡ framed a.level a.id (write_list (indexed ps))
  unfolding list_bytes
  list_long r ps k h z =
      ap (λ o. flat_map write_entry (list_entries a.id (indexed (or_default o [])))) h.told ∙ list_framed a k ps (λ n. z (h.counted ∙ n))

-- The frame of the table, where there is one.
module _ (xs : List ℕ) (rs : List AttributeRow) where
  pub table_absent : None ≡ row_under recipients_id rs → table_bytes xs rs ≡ []
  unfolding table_bytes
  table_absent e = ap (λ o. flat_map write_entry (table_entries (map indexed (or_default (told_by as_table o) [])))) (row_lost xs recipients_id rs e)

  pub table_short : (r : AttributeRow) (ts : List (List Property)) → TableHeld xs rs r ts → val (part xs r.place 4) ≡ 0 → table_bytes xs rs ≡ []
  unfolding table_bytes
  table_short r ts h z =
      ap (λ o. flat_map write_entry (table_entries (map indexed (or_default o [])))) h.told ∙ table_empty ts (sym h.counted ∙ z)

  pub table_long : (r : AttributeRow) (ts : List (List Property)) → TableHeld xs rs r ts → (val (part xs r.place 4) ≡ 0 → ⊥)
      → table_bytes xs rs ≡ framed 1 recipients_id (write_table (map indexed ts))
  unfolding table_bytes
  table_long r ts h z =
      ap (λ o. flat_map write_entry (table_entries (map indexed (or_default o [])))) h.told ∙ table_framed ts (λ n. z (h.counted ∙ n))
