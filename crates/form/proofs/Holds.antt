-- What rows hold under an id, and its frame.
use Rattle.std.proofs.Common.{◌≡◌, ℕ, ◌+◌, ◌<◌, ◌≤◌, true, List, [], ◌∷◌, ◌++◌, length, get_or, drop, is_some, Some, None, Ok, Option, sym, refl, ap, ◌∙◌, inl, inr, append_assoc, append-nil, arith}
use Rattle.std.specs.List.{flat_map, AllByRecursion}
use Rattle.std.proofs.lemmas.List.{drop_more, drop_all}
use Rattle.std.proofs.lemmas.Bool.{cases_eq, eq-eqb, ne_eqb}
use Rattle.source.specs.Bytes.{part}
use Rattle.source.specs.Outcome.{given, over}
use Rattle.source.specs.declared.refusals.Reason.TheVariants.{NotAdmitted}
use Rattle.source.proofs.Outcomes.{err_not_ok}
use Rattle.scan.specs.Scans.{asked}
use Rattle.scan.proofs.Parts.{asked_within}
use Rattle.attribute.specs.Table.{attribute_of}
use Rattle.attribute.specs.declared.Attribute.{Attribute}
use Rattle.attribute.specs.declared.Rule.{Rule}
use Rattle.contents.specs.Contents.{Contents, means, admits, normal, normal_data}
use Rattle.index.specs.declared.attributes.AttributeRow.{AttributeRow}
use Rattle.stream.specs.Reading.{Meant, contents, Nature, plain, nature, meant_as}
use Rattle.stream.specs.Messages.{first}
use Rattle.stream.specs.Writing.{level_in, write_entry, found, attribute_entries}
use Rattle.form.specs.Framing.{framed}
use Rattle.form.specs.Targets.{rule_in, row_meant, or_version, row_entry, Standing, row_under}
use Rattle.form.specs.Holdings.{Plain, contents_in, attribute_bytes}

pub joined_append : {X A : Type 0} (f : X → List A) (xs ys : List X) → flat_map f (xs ++ ys) ≡ flat_map f xs ++ flat_map f ys
joined_append f [] ys = refl
joined_append f (x ∷ xs) ys = ap (λ l. f x ++ l) (joined_append f xs ys) ∙ sym (append_assoc (f x) (flat_map f xs) (flat_map f ys))

-- Data that mean contents.
given_contents : (o : Option Contents) (base : ℕ) (m : Meant) → over contents (given o NotAdmitted base) ≡ Ok m → (c : Contents) × (o ≡ Some c) × (m ≡ contents c)
given_contents (Some c) base m e = (c, refl, cc)
given_contents None base m e = absurd (err_not_ok e)

meant_plain : (n : Nature) (r : Rule) (xs : List ℕ) (base size : ℕ) (m : Meant) → n ≡ plain → meant_as n r xs base size ≡ Ok m
    → (c : Contents) × (means r (part xs base size) ≡ Some c) × (m ≡ contents c)
unfolding meant_as
meant_plain n r xs base size m e f = given_contents (means r (part xs base size)) base m (rw e at f)

module _ (xs : List ℕ) (a : Attribute) (p : Plain a) where
  pub plain_row : (r : AttributeRow) → r.id ≡ a.id → Standing xs r
      → (c : Contents) × (means a.rule (part xs r.place r.size) ≡ Some c) × ((row_entry xs r).meant ≡ contents c)
  unfolding row_entry row_meant
  plain_row r e s =
      let k : rule_in (attribute_of r.id) ≡ a.rule = ap (λ i. rule_in (attribute_of i)) e ∙ ap rule_in p.known in
      let q : row_meant xs r ≡ meant_as (nature a.rule) a.rule xs r.place r.size = ap (λ ρ. meant_as (nature ρ) ρ xs r.place r.size) k in
      meant_plain (nature a.rule) a.rule xs r.place r.size (or_version (row_meant xs r)) p.kind (sym q ∙ s.reads)

  passed : (q : AttributeRow) (rows : List AttributeRow) → (q.id ≡ a.id → ⊥) → contents_in xs (q ∷ rows) a.id ≡ contents_in xs rows a.id
  unfolding first row_entry
  passed q rows n = rw (ne_eqb q.id a.id n)

  -- The row under its id tells.
  pub held_some : (rows : List AttributeRow) (r : AttributeRow) → AllByRecursion (Standing xs) rows → Some r ≡ row_under a.id rows
      → (c : Contents) × (contents_in xs rows a.id ≡ Some c) × (means a.rule (part xs r.place r.size) ≡ Some c) × (r.place + r.size ≤ length xs)
  unfolding first row_entry
  held_some [] r s e = let z : ◌≡◌ {A = ℕ} 0 1 = cc in absurd (omega arith)
  held_some (q ∷ rows) r s e = elim (cases_eq q.id a.id) [
    | inl d ↦
        let f : Some r ≡ Some q = e ∙ rw (eq-eqb q.id a.id d) in
        let same : r ≡ q = cc in
        let (c, m, w) = plain_row q d s.0 in
        (c, rw (eq-eqb q.id a.id d, w), rw same m, rw same s.0.within)
    | inr n ↦
        let (c, m, w, l) = held_some rows r s.1 (e ∙ rw (ne_eqb q.id a.id n)) in
        (c, passed q rows n ∙ m, w, l)
  ]

  pub held_none : (rows : List AttributeRow) → None ≡ row_under a.id rows → contents_in xs rows a.id ≡ None
  unfolding first row_entry
  held_none [] e = refl
  held_none (q ∷ rows) e = elim (cases_eq q.id a.id) [
    | inl d ↦
        let f : None ≡ Some q = e ∙ rw (eq-eqb q.id a.id d) in
        let z : ◌≡◌ {A = ℕ} 0 1 = cc in
        absurd (omega arith)
    | inr n ↦ passed q rows n ∙ held_none rows (e ∙ rw (ne_eqb q.id a.id n))
  ]

  -- The rule admits what the row has.
  pub row_admitted : (rows : List AttributeRow) (r : AttributeRow) → AllByRecursion (Standing xs) rows → Some r ≡ row_under a.id rows
      → asked (admits a.rule) xs r.place r.size ≡ Ok true
  unfolding admits
  row_admitted rows r s e =
      let (c, _, m, w) = held_some rows r s e in
      asked_within (admits a.rule) xs r.place r.size w ∙ ap (λ o. Ok (is_some o)) m

  -- The frame of an attribute that is there, and of one that is not.
  pub bytes_some : (rows : List AttributeRow) (r : AttributeRow) → AllByRecursion (Standing xs) rows → Some r ≡ row_under a.id rows
      → attribute_bytes xs rows a ≡ framed a.level a.id (normal_data a.rule (part xs r.place r.size))
  unfolding attribute_bytes write_entry framed
  bytes_some rows r s e =
      let (c, h, m, _) = held_some rows r s e in
      let d : framed (level_in (attribute_of a.id)) a.id (normal c) ≡ framed a.level a.id (normal_data a.rule (part xs r.place r.size)) = rw (p.known, m) in
      ap (λ o. flat_map write_entry (found a.id o)) h ∙ append-nil _ ∙ d

  pub bytes_none : (rows : List AttributeRow) → None ≡ row_under a.id rows → attribute_bytes xs rows a ≡ []
  unfolding attribute_bytes
  bytes_none rows e = ap (λ o. flat_map write_entry (found a.id o)) (held_none rows e)

-- One attribute after another.
pub attributes_more : (xs : List ℕ) (rows : List AttributeRow) (table : List Attribute) (k : ℕ) (d : Attribute) → k < length table
    → flat_map write_entry (attribute_entries (drop k table) (contents_in xs rows))
    ≡ attribute_bytes xs rows (get_or table k d) ++ flat_map write_entry (attribute_entries (drop (k + 1) table) (contents_in xs rows))
unfolding attribute_entries attribute_bytes
attributes_more xs rows table k d h =
    ap (λ t. flat_map write_entry (attribute_entries t (contents_in xs rows))) (drop_more table k d h)
    ∙ joined_append write_entry (found (get_or table k d).id (contents_in xs rows (get_or table k d).id)) _

pub attributes_none : (xs : List ℕ) (rows : List AttributeRow) (table : List Attribute) (k : ℕ) → length table ≤ k
    → flat_map write_entry (attribute_entries (drop k table) (contents_in xs rows)) ≡ []
unfolding attribute_entries
attributes_none xs rows table k h = ap (λ t. flat_map write_entry (attribute_entries t (contents_in xs rows))) (drop_all k table h)
