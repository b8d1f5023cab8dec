-- Rows that carry properties, as they are written.
use Rattle.std.proofs.Common.{◌≡◌, ℕ, suc, ◌+◌, ◌<◌, ◌≤◌, List, [], ◌∷◌, ◌++◌, length, get_or, drop, Some, None, Ok, Option, sym, refl, ap, ◌∙◌, arith}
use Rattle.std.proofs.lemmas.List.{drop_more}
use Rattle.source.specs.Outcome.{Outcome, ◌>>=◌, given}
use Rattle.source.specs.declared.refusals.Reason.{Reason}
use Rattle.source.specs.declared.refusals.Reason.TheVariants.{FieldRule}
use Rattle.source.proofs.Outcomes.{err_not_ok, ok_same, bind_got}
use Rattle.index.specs.Keys.{Key, tag, numbered, named, key_of}
use Rattle.index.specs.declared.properties.PropertyRow.{PropertyRow}
use Rattle.property.specs.declared.kinds.Shape.{Shape}
use Rattle.property.specs.Fields.{At, at}
use Rattle.property.specs.Indexing.{Carried}
use Rattle.property.specs.Kinds.{Value, shape_of}
use Rattle.property.specs.Lists.{Property, property_from}
use Rattle.property.specs.Rows.{Carries}
use Rattle.property.specs.Values.{values_at}
use Rattle.property.specs.Writing.{write_property, write_properties, after_key}
use Rattle.listform.specs.Forms.{row_form, rows_form, number_behind, RowFits, RowsFit}
use Rattle.listform.proofs.ValueForms.{shape_in}

given_got : {A : Type 0} (o : Option A) (q : Reason) (p : ℕ) (a : A) → Ok a ≡ given o q p → Some a ≡ o
given_got (Some b) q p a e = cc
given_got None q p a e = absurd (err_not_ok (sym e))

pub after_key_above : (k : Key) (n : ℕ) → after_key k n ≤ n + 1
after_key_above (tag i) n = omega arith
after_key_above (numbered g m) n = omega arith
after_key_above (named g s) n = omega arith

pub behind_more : (rs : List PropertyRow) (i n m : ℕ) (r : PropertyRow) → i < length rs → r ≡ get_or rs i r → m ≡ after_key (key_of r.key) n
    → number_behind n (drop i rs) ≡ number_behind m (drop (i + 1) rs)
behind_more rs i n m r h e f = ap (number_behind n) (drop_more rs i r h) ∙ rw (← e, f)

module _ (xs : List ℕ) where
  -- One row more of those that are left.
  pub fit_at : (rs : List PropertyRow) (i : ℕ) (r : PropertyRow) → i < length rs → r ≡ get_or rs i r → RowsFit xs (drop i rs) → RowFits xs r × RowsFit xs (drop (i + 1) rs)
  fit_at rs i r h e w = let q : RowsFit xs (r ∷ drop (i + 1) rs) = rw (drop_more rs i r h, ← e) at w in q

  pub rows_more : (rs : List PropertyRow) (i n m : ℕ) (r : PropertyRow) → i < length rs → r ≡ get_or rs i r → m ≡ after_key (key_of r.key) n
      → rows_form xs n (drop i rs) ≡ row_form xs n r ++ rows_form xs m (drop (i + 1) rs)
  rows_more rs i n m r h e f = ap (rows_form xs n) (drop_more rs i r h) ∙ rw (← e, f)

  module _ (end : ℕ) (l : end ≤ length xs) where
    row_made : (r : PropertyRow) (start : ℕ) (s : Shape) (v : At (List Value)) → Some s ≡ shape_of r.number → Ok v ≡ values_at xs end start s r.values
        → RowFits xs r × ((n : ℕ) → row_form xs n r ≡ write_property n (record { key = key_of r.key; type = r.number; values = v.what }))
    unfolding row_form write_property
    row_made r start s v is h =
        let (fits, form) = shape_in xs end start l s r.values v h in
        rw (← is) (fits, λ n. rw form)

    pub row_in : (r : PropertyRow) (p : Property) → Carries xs end r p
        → RowFits xs r × ((n : ℕ) → row_form xs n r ≡ write_property n p) × (key_of r.key ≡ p.key)
    unfolding property_from ◌>>=◌
    row_in r p (start, e) =
        let made : At (List Value) → At Property = λ v. at (record { key = key_of r.key; type = r.number; values = v.what }) v.next in
        let go : Shape → Outcome (At Property) = λ s. values_at xs end start s r.values >>= (λ v. Ok (made v)) in
        let (s, f, g) = bind_got (given (shape_of r.number) FieldRule start) go _ (sym e) in
        let (v, h, last) = bind_got (values_at xs end start s r.values) (λ v. Ok (made v)) _ g in
        let same : p ≡ (made v).what = ap (λ (a : At Property). a.what) (ok_same _ _ last) in
        let (fits, form) = row_made r start s v (given_got _ _ _ _ f) h in
        (fits, λ n. form n ∙ ap (write_property n) (sym same), sym (ap (λ (p : Property). p.key) same))

    pub rows_in : (rs : List PropertyRow) (ps : List Property) → Carried xs end rs ps
        → RowsFit xs rs × ((n : ℕ) → rows_form xs n rs ≡ write_properties n ps) × (length rs ≡ length ps)
    rows_in [] [] c = (tt, λ n. refl, refl)
    rows_in [] (p ∷ ps) c = absurd c
    rows_in (r ∷ rs) [] c = absurd c
    rows_in (r ∷ rs) (p ∷ ps) c =
        let (fits, form, key) = row_in r p c.0 in
        let (all, forms, size) = rows_in rs ps c.1 in
        ((fits, all), λ n. rw (form n, key, forms (after_key p.key n)), ap suc size)
