-- Lists and tables that were read, as they are written.
use Rattle.std.proofs.Common.{◌≡◌, ℕ, suc, ◌+◌, ◌≤◌, min, false, eqb, leb, List, [], ◌∷◌, ◌++◌, map, length, take, Ok, Err, Some, None, fold, sym, refl, ap, ◌∙◌, inl, inr, arith}
use Rattle.std.specs.List.{flat_map}
use Rattle.std.proofs.lemmas.List.{length_push, length-map}
use Rattle.std.proofs.lemmas.Bool.{cases_Bool, eqb-true, leb-true}
use Rattle.source.specs.Bytes.{le}
use Rattle.source.specs.Outcome.{Outcome, ◌>>=◌, ◌>>◌, need}
use Rattle.source.specs.declared.refusals.Reason.TheVariants.{LeftOver, Limit}
use Rattle.source.specs.declared.refusals.Refusal.{Refusal}
use Rattle.source.proofs.Outcomes.{err_not_ok, ok_same, need_got, bind_got, then_got}
use Rattle.index.specs.Rows.{has, added}
use Rattle.index.specs.declared.properties.PropertyRow.{PropertyRow}
use Rattle.pen.specs.declared.Pen.{Pen}
use Rattle.pen.specs.Pen.{Leads}
use Rattle.pen.proofs.Pens.{leads_on, leads_end}
use Rattle.property.specs.declared.indexing.Listed.{Listed}
use Rattle.property.specs.Fields.{At, at, repeated, number_at, whole, data_end}
use Rattle.property.specs.Indexing.{ListedBy, listed}
use Rattle.property.specs.Lists.{Property, property_at, list_at, table_at, list_limit, row_limit, property_list, recipient_table, same_property, indexed}
use Rattle.property.specs.Names.{first_named}
use Rattle.property.specs.Writing.{write_list, write_table}
use Rattle.property.proofs.Carrying.{listed_room}
use Rattle.listform.specs.Forms.{number_there, rows_form, RowsFit}
use Rattle.listform.specs.Written.{form, OneWritten, AllWritten}
use Rattle.listform.proofs.RowForms.{rows_in}
use Rattle.listform.proofs.ValueForms.{number_in}
use Rattle.listform.proofs.WalkSteps.{repeated_length, repeated_first, repeated_nothing}

-- An index has no more than what came.
length_added : (ps : List Property) (p : Property) → length (added same_property false ps p) ≤ length ps + 1
length_added ps p =
    elim (cases_Bool (has same_property ps p)) [
      | inl t ↦ rw t (omega arith)
      | inr f ↦ rw f (omega (arith, length_push ps p))
    ]

length_folded : (acc ps : List Property) → length (fold (added same_property false) acc ps) ≤ length acc + length ps
length_folded acc [] = omega arith
length_folded acc (p ∷ ps) = omega (arith, length_folded (added same_property false acc p) ps, length_added acc p)

length_indexed : (ps : List Property) → length (indexed ps) ≤ length ps
length_indexed ps = omega (arith, length_folded [] ps)

-- Data that were read to their end.
whole_in : {A : Type 0} (end : ℕ) (a : At A) (b : A) → Ok b ≡ whole end a → a ≡ at b end
unfolding whole ◌>>◌
whole_in end a b e =
    let (u, t, h) = then_got (need (eqb a.next end) LeftOver a.next) (Ok a.what) b e in
    let next : a.next ≡ end = eqb-true _ _ (need_got _ _ _ u t) in
    let what : b ≡ a.what = ok_same _ _ h in
    rw (what, ← next)

module _ (xs : List ℕ) (end : ℕ) where
  pub list_in : (base : ℕ) (ps : List Property) → property_list xs base end ≡ Ok ps → list_at xs end base ≡ Ok (at ps end)
  unfolding property_list ◌>>=◌
  list_in base ps e =
      let (a, f, g) = bind_got (list_at xs end base) (λ a. whole end a) ps (sym e) in
      sym f ∙ ap Ok (whole_in end a ps g)

  -- The readings of a list and of a table behind their counts.
  list_parts : (p : ℕ) (a : At (List Property)) → Ok a ≡ list_at xs end p → (n : ℕ) × (n ≤ list_limit) × (Ok a ≡ repeated (property_at xs end) n (p + 4))
  unfolding list_at ◌>>=◌ ◌>>◌
  list_parts p a e =
      let go : ℕ → Outcome (At (List Property)) = λ n. repeated (property_at xs end) n (p + 4) in
      let (n, f, g) = bind_got (number_at xs end p p 4) (λ n. need (leb n list_limit) Limit p >> go n) a e in
      let (u, t, r) = then_got (need (leb n list_limit) Limit p) (go n) a g in
      (n, leb-true n list_limit (need_got _ _ _ u t), r)

  pub list_small : (p : ℕ) (a : At (List Property)) → Ok a ≡ list_at xs end p → length (indexed a.what) ≤ list_limit
  list_small p a e =
      let (n, small, r) = list_parts p a e in
      omega (arith, length_indexed a.what, repeated_length _ n (p + 4) a r)

  pub table_in : (base : ℕ) (rs : List (List Property)) → recipient_table xs base end ≡ Ok rs
      → (base + 4 ≤ end) × (number_there xs base ≡ length rs) × (repeated (list_at xs end) (number_there xs base) (base + 4) ≡ Ok (at rs end))
  unfolding recipient_table table_at ◌>>=◌ ◌>>◌
  table_in base rs e =
      let go : ℕ → Outcome (At (List (List Property))) = λ n. repeated (list_at xs end) n (base + 4) in
      let (a, f, g) = bind_got (table_at xs end base) (λ a. whole end a) rs (sym e) in
      let (n, h, i) = bind_got (number_at xs end base base 4) (λ n. need (leb n row_limit) Limit base >> go n) a f in
      let (u, t, r) = then_got (need (leb n row_limit) Limit base) (go n) a i in
      let (fits, same) = number_in xs end base base n h in
      let is : a ≡ at rs end = whole_in end a rs g in
      rw same (fits, sym (repeated_length _ n (base + 4) a r) ∙ ap (λ (a : At (List (List Property))). length a.what) is, sym r ∙ ap Ok is)

  pub table_small : (base : ℕ) (rs : List (List Property)) → recipient_table xs base end ≡ Ok rs → length rs ≤ row_limit
  unfolding recipient_table table_at ◌>>=◌ ◌>>◌
  table_small base rs e =
      let go : ℕ → Outcome (At (List (List Property))) = λ n. repeated (list_at xs end) n (base + 4) in
      let (a, f, g) = bind_got (table_at xs end base) (λ a. whole end a) rs (sym e) in
      let (n, h, i) = bind_got (number_at xs end base base 4) (λ n. need (leb n row_limit) Limit base >> go n) a f in
      let (u, t, r) = then_got (need (leb n row_limit) Limit base) (go n) a i in
      let is : a ≡ at rs end = whole_in end a rs g in
      let size : length rs ≡ n = sym (ap (λ (a : At (List (List Property))). length a.what) is) ∙ repeated_length _ n (base + 4) a r in
      rw size (leb-true n row_limit (need_got _ _ _ u t))

-- The list at a place, in rows of its index.
module _ (xs : List ℕ) (end place room : ℕ) (l : end ≤ length xs) (m : list_limit ≤ room) where
  pub listed_is : listed xs (data_end xs end) place room ≡ list_at xs end place
  listed_is = let e : min end (length xs) ≡ end = omega arith in rw e (listed_room xs end place room m)

  pub list_rows : (after : List PropertyRow) (r : Listed) → ListedBy xs (data_end xs end) (listed xs (data_end xs end) place room) after (Ok r)
      → RowsFit xs (take r.count after) × (length (take r.count after) ≤ list_limit)
      × ((a : At (List Property)) → list_at xs end place ≡ Ok a
      → (r.next ≡ a.next) × (le 4 (length (take r.count after)) ++ rows_form xs first_named (take r.count after) ≡ write_list (indexed a.what)))
  unfolding write_list
  list_rows after r (ps, read, _, carried) =
      let e : min end (length xs) ≡ end = omega arith in
      let is : list_at xs end place ≡ Ok (at ps r.next) = sym listed_is ∙ read in
      let (fits, forms, size) = rows_in xs end l (take r.count after) (indexed ps) (rw e at carried) in
      let small = list_small xs end place (at ps r.next) (sym is) in (
        fits,
        omega arith,
        λ a f.
            let same : at ps r.next ≡ a = ok_same _ _ (sym is ∙ f) in (
              ap (λ (a : At (List Property)). a.next) same,
              ap (λ n. le 4 n ++ rows_form xs first_named (take r.count after)) size ∙ ap (λ bs. le 4 (length (indexed ps)) ++ bs) (forms first_named) ∙ ap (λ (a : At (List Property)). form a.what) same,
            ),
      )

  pub list_refused : (after : List PropertyRow) (q : Refusal) → ListedBy xs (data_end xs end) (listed xs (data_end xs end) place room) after (Err q)
      → (a : At (List Property)) → list_at xs end place ≡ Ok a → ⊥
  list_refused after q e a f = err_not_ok (sym e ∙ (listed_is ∙ f))

-- Of `count` lists from `place` on, n are left from p on: whoever writes those has written all.
abbrev pub Left : List ℕ → (end count place : ℕ) → Pen → (n p : ℕ) → Pen → Type 0
Left xs end count place before n p pen =
    (a : At (List (List Property))) → repeated (list_at xs end) count place ≡ Ok a
    → (b : At (List (List Property))) × (repeated (list_at xs end) n p ≡ Ok b) × Leads before (flat_map form a.what) pen (flat_map form b.what)

module _ (xs : List ℕ) (end count place : ℕ) (before : Pen) where
  pub left_more : (n m p : ℕ) (pen pen' : Pen) (q : ℕ) → n ≡ suc m → Left xs end count place before n p pen
      → OneWritten xs p end pen pen' (Some q) → Left xs end count place before m q pen'
  left_more n m p pen pen' q e left one a f =
      let (b, g, leads) = left a f in
      let (h, rest, k, t, same) = repeated_first (list_at xs end) n m p b e (sym g) in
      let (next, wrote) = one h (sym k) in
      let on : q ≡ h.next = cc in
      (rest, rw on (sym t), leads_on leads (ap (λ (b : At (List (List Property))). flat_map form b.what) same) wrote)

  -- Where no list is left to read, there were not so many.
  pub left_lost : (n m p : ℕ) (pen pen' : Pen) → n ≡ suc m → Left xs end count place before n p pen → OneWritten xs p end pen pen' None
      → AllWritten xs count place end before pen'
  left_lost n m p pen pen' e left one a f =
      let (b, g, _) = left a f in
      let (h, _, k, _, _) = repeated_first (list_at xs end) n m p b e (sym g) in
      let q = (one h (sym k)).0 in let z : ◌≡◌ {A = ℕ} 0 1 = cc in absurd (omega arith)

  pub left_none : (n p : ℕ) (pen : Pen) → n ≡ 0 → Left xs end count place before n p pen → AllWritten xs count place end before pen
  left_none n p pen e left a f =
      let (b, g, leads) = left a f in
      leads_end leads (ap (λ (b : At (List (List Property))). flat_map form b.what) (repeated_nothing (list_at xs end) n p b e (sym g)))

joined_map : (rs : List (List Property)) → flat_map form rs ≡ flat_map write_list (map indexed rs)
joined_map [] = refl
joined_map (r ∷ rs) = ap (λ l. write_list (indexed r) ++ l) (joined_map rs)

pub table_form : (rs : List (List Property)) → le 4 (length rs) ++ flat_map form rs ≡ write_table (map indexed rs)
unfolding write_table
table_form rs = rw (length-map rs indexed, joined_map rs)
