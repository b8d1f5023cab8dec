-- Rows that carry a list, cut where a change cuts them: what is written is the changed list.
use Rattle.std.proofs.Common.{◌≡◌, ℕ, zero, suc, ◌+◌, ◌-◌, ◌<◌, ◌≤◌, true, false, List, [], ◌∷◌, ◌++◌, length, take, drop, is_some, Some, None, Option, sym, refl, ap, ◌∙◌, inl, inr, append_assoc, append-nil, add-one, one-add, arith}
use mir.Val.{bool_byte}
use Rattle.std.proofs.lemmas.List.{length-append, length-take, length-drop, take_all, drop_all}
use Rattle.std.proofs.lemmas.Bool.{cases_Bool, both_ways}
use Rattle.source.specs.Bytes.{le}
use Rattle.index.specs.Keys.{Key, key_of, same_key}
use Rattle.index.specs.Rows.{has, before, position}
use Rattle.index.specs.declared.keys.PropertyKey.{PropertyKey}
use Rattle.index.specs.declared.properties.PropertyRow.{PropertyRow}
use Rattle.index.proofs.Positions.{position_below}
use Rattle.property.specs.Indexing.{same_row, Carried}
use Rattle.property.specs.Lists.{Property, list_limit}
use Rattle.property.specs.Names.{first_named}
use Rattle.property.specs.Rows.{Carries}
use Rattle.property.specs.Writing.{write_property, write_properties, write_list, after_key}
use Rattle.listform.specs.Forms.{rows_form, number_behind, RowsFit}
use Rattle.listform.proofs.RowForms.{row_in, rows_in}
use Rattle.editing.specs.Amendments as spec
use Rattle.editing.specs.Amendments.{list_after}
use Rattle.editing.specs.Slots.{has_key, replace_property, put_in, without_key}
use Rattle.amend.specs.Changes.{ListingMeans}
use Rattle.amend.specs.Cuts.{put_rows, probe, cut_of, Below, cut_count, CutFits, cut_form}
use Rattle.amend.specs.declared.changes.Listing.{Listing}
use Rattle.amend.specs.declared.changes.Listing.TheVariants.{Same, With, Less}
use Rattle.amend.specs.declared.cuts.Cut.{Cut}

pub found_below : (rows : List PropertyRow) (r : PropertyRow) (o : Option ℕ) → o ≡ position same_row rows r → Below (length rows) o
found_below rows r (Some i) e = position_below same_row rows r i e
found_below rows r None e = tt

pub put_counted : (o : Option PropertyRow) → bool_byte (is_some o) ≡ length (put_rows o)
put_counted None = refl
put_counted (Some r) = refl

pub rest_is : (rs : List PropertyRow) (n : ℕ) → take (length rs - n) (drop n rs) ≡ drop n rs
rest_is rs n = take_all _ _ (simp length-drop (omega arith))

module _ (xs : List ℕ) where
  pub take_fits : (n : ℕ) (rs : List PropertyRow) → RowsFit xs rs → RowsFit xs (take n rs)
  take_fits zero rs h = tt
  take_fits (suc n) [] h = tt
  take_fits (suc n) (r ∷ rs) h = (h.0, take_fits n rs h.1)

  pub drop_fits : (n : ℕ) (rs : List PropertyRow) → RowsFit xs rs → RowsFit xs (drop n rs)
  drop_fits zero rs h = h
  drop_fits (suc n) [] h = h
  drop_fits (suc n) (r ∷ rs) h = drop_fits n rs h.1

-- The number of the next name behind properties.
names_behind : ℕ → List Property → ℕ
names_behind n [] = n
names_behind n (p ∷ ps) = names_behind (after_key p.key n) ps

properties_append : (n : ℕ) (ps qs : List Property) → write_properties n (ps ++ qs) ≡ write_properties n ps ++ write_properties (names_behind n ps) qs
unfolding names_behind
properties_append n [] qs = refl
properties_append n (p ∷ ps) qs =
    ap (λ l. write_property n p ++ l) (properties_append (after_key p.key n) ps qs) ∙ sym (append_assoc (write_property n p) _ _)

without_none : (k : Key) (ps : List Property) → has_key k ps ≡ false → without_key k ps ≡ ps
without_none k [] h = refl
without_none k (p ∷ ps) h =
    elim (cases_Bool (same_key p.key k)) [
      | inl t ↦ absurd (both_ways true (rw t at h) refl)
      | inr f ↦ rw f (ap (λ l. p ∷ l) (without_none k ps (rw f at h)))
    ]

module _ (xs : List ℕ) (end : ℕ) where
  carried_take : (n : ℕ) (rs : List PropertyRow) (ps : List Property) → Carried xs end rs ps → Carried xs end (take n rs) (take n ps)
  carried_take zero rs ps c = tt
  carried_take (suc n) [] [] c = tt
  carried_take (suc n) [] (p ∷ ps) c = absurd c
  carried_take (suc n) (r ∷ rs) [] c = absurd c
  carried_take (suc n) (r ∷ rs) (p ∷ ps) c = (c.0, carried_take n rs ps c.1)

  carried_drop : (n : ℕ) (rs : List PropertyRow) (ps : List Property) → Carried xs end rs ps → Carried xs end (drop n rs) (drop n ps)
  carried_drop zero rs ps c = c
  carried_drop (suc n) [] [] c = tt
  carried_drop (suc n) [] (p ∷ ps) c = absurd c
  carried_drop (suc n) (r ∷ rs) [] c = absurd c
  carried_drop (suc n) (r ∷ rs) (p ∷ ps) c = carried_drop n rs ps c.1

module _ (xs : List ℕ) (end : ℕ) (l : end ≤ length xs) where
  numbers_in : (n : ℕ) (rs : List PropertyRow) (ps : List Property) → Carried xs end rs ps → number_behind n rs ≡ names_behind n ps
  unfolding names_behind
  numbers_in n [] [] c = refl
  numbers_in n [] (p ∷ ps) c = absurd c
  numbers_in n (r ∷ rs) [] c = absurd c
  numbers_in n (r ∷ rs) (p ∷ ps) c =
      let (_, _, key) = row_in xs end l r p c.0 in
      rw key (numbers_in (after_key p.key n) rs ps c.1)

  -- The property with the key of a row, and where it stands.
  module _ (row : PropertyRow) (k : Key) (is : key_of row.key ≡ k) where
    has_in : (rs : List PropertyRow) (ps : List Property) → Carried xs end rs ps → has same_row rs row ≡ has_key k ps
    has_in [] [] c = refl
    has_in [] (p ∷ ps) c = absurd c
    has_in (r ∷ rs) [] c = absurd c
    has_in (r ∷ rs) (p ∷ ps) c =
        let (_, _, key) = row_in xs end l r p c.0 in
        rw (key, is, has_in rs ps c.1)

    replaced_in : (rs : List PropertyRow) (ps : List Property) (p : Property) → p.key ≡ k → Carried xs end rs ps → has same_row rs row ≡ true
        → replace_property ps p ≡ take (before same_row rs row) ps ++ (p ∷ drop (suc (before same_row rs row)) ps)
    replaced_in [] ps p e c h = absurd (both_ways false refl h)
    replaced_in (r ∷ rs) [] p e c h = absurd c
    replaced_in (r ∷ rs) (q ∷ ps) p e c h =
        let (_, _, key) = row_in xs end l r q c.0 in
        let same : same_key (key_of r.key) (key_of row.key) ≡ same_key q.key p.key = rw (key, is, e) in
        elim (cases_Bool (same_key (key_of r.key) (key_of row.key))) [
          | inl t ↦ rw (← same, t)
          | inr f ↦
              let more : has same_row rs row ≡ true = rw f at h in
              rw (← same, f, one-add) (ap (λ l. q ∷ l) (replaced_in rs ps p e c.1 more))
        ]

    dropped_in : (rs : List PropertyRow) (ps : List Property) → Carried xs end rs ps → has same_row rs row ≡ true
        → without_key k ps ≡ take (before same_row rs row) ps ++ drop (suc (before same_row rs row)) ps
    dropped_in [] ps c h = absurd (both_ways false refl h)
    dropped_in (r ∷ rs) [] c h = absurd c
    dropped_in (r ∷ rs) (q ∷ ps) c h =
        let (_, _, key) = row_in xs end l r q c.0 in
        let same : same_key (key_of r.key) (key_of row.key) ≡ same_key q.key k = rw (key, is) in
        elim (cases_Bool (same_key (key_of r.key) (key_of row.key))) [
          | inl t ↦ rw (← same, t)
          | inr f ↦
              let more : has same_row rs row ≡ true = rw f at h in
              rw (← same, f, one-add) (ap (λ l. q ∷ l) (dropped_in rs ps c.1 more))
        ]

-- What a cut of rows makes of the list that they carry.
pub record CutMade (ys : List ℕ) (rs : List PropertyRow) (ps : List Property) (c : Cut) (qs : List Property) : Type 0 where
  pub front : c.front ≤ length rs
  pub back : c.back ≤ length rs
  pub middle : List Property
  pub put : Carried ys (length ys) (put_rows c.put) middle
  pub is : qs ≡ take c.front ps ++ (middle ++ drop c.back ps)

uncut : (ps : List Property) (n : ℕ) → n ≡ length ps → (take n ps ≡ ps) × (drop n ps ≡ [])
uncut ps n e = (take_all n ps (omega arith), drop_all n ps (omega arith))

module _ (xs ys : List ℕ) (end : ℕ) (l : end ≤ length xs) (rs : List PropertyRow) (ps : List Property) (c : Carried xs end rs ps) where
  same_size : length rs ≡ length ps
  same_size = (rows_in xs end l rs ps c).2

  made_same : CutMade ys rs ps (cut_of rs Same) ps
  unfolding cut_of
  made_same =
      let (t, d) = uncut ps (length rs) same_size in
      record { front = omega arith; back = omega arith; middle = []; put = tt; is = sym (rw (t, d) (append-nil ps)) }

  made_with : (row : PropertyRow) (p : Property) → Carries ys (length ys) row p → CutMade ys rs ps (cut_of rs (With row)) (put_in ps p)
  unfolding cut_of
  made_with row p h =
      let key = (row_in ys (length ys) (omega arith) row p h).2 in
      let e = has_in xs end l row p.key key rs ps c in
      let (t, d) = uncut ps (length rs) same_size in
      elim (cases_Bool (has same_row rs row)) [
        | inl y ↦
            let below : before same_row rs row < length rs = position_below same_row rs row (before same_row rs row) (rw y) in
            rw (← e, y) (record {
              front = omega arith;
              back = omega arith;
              middle = p ∷ [];
              put = (h, tt);
              is = rw add-one (replaced_in xs end l row p.key key rs ps p refl c y);
            })
        | inr n ↦
            rw (← e, n) (record { front = omega arith; back = omega arith; middle = p ∷ []; put = (h, tt); is = rw (t, d) })
      ]

  made_less : (key : PropertyKey) → CutMade ys rs ps (cut_of rs (Less key)) (without_key (key_of key) ps)
  unfolding cut_of
  made_less key =
      let e = has_in xs end l (probe key) (key_of key) refl rs ps c in
      let (t, d) = uncut ps (length rs) same_size in
      elim (cases_Bool (has same_row rs (probe key))) [
        | inl y ↦
            let below : before same_row rs (probe key) < length rs = position_below same_row rs (probe key) (before same_row rs (probe key)) (rw y) in
            rw y (record {
              front = omega arith;
              back = omega arith;
              middle = [];
              put = tt;
              is = rw add-one (dropped_in xs end l (probe key) (key_of key) refl rs ps c y);
            })
        | inr n ↦
            rw n (record {
              front = omega arith;
              back = omega arith;
              middle = [];
              put = tt;
              is = without_none (key_of key) ps (sym e ∙ n) ∙ sym (rw (t, d) (append-nil ps));
            })
      ]

  cut_made : (listing : Listing) (k : spec.Listing) → ListingMeans ys listing k → CutMade ys rs ps (cut_of rs listing) (list_after k ps)
  cut_made Same spec.same m = made_same
  cut_made Same (spec.with_property p) m = absurd m
  cut_made Same (spec.less_key k) m = absurd m
  cut_made (With row) spec.same m = absurd m
  cut_made (With row) (spec.with_property p) m = made_with row p m
  cut_made (With row) (spec.less_key k) m = absurd m
  cut_made (Less key) spec.same m = absurd m
  cut_made (Less key) (spec.with_property p) m = absurd m
  cut_made (Less key) (spec.less_key k) m = rw (← m) (made_less key)

  module _ (cut : Cut) (qs : List Property) (m : CutMade ys rs ps cut qs) where
    put_in_ys : RowsFit ys (put_rows cut.put) × ((n : ℕ) → rows_form ys n (put_rows cut.put) ≡ write_properties n m.middle) × (length (put_rows cut.put) ≡ length m.middle)
    put_in_ys = rows_in ys (length ys) (omega arith) (put_rows cut.put) m.middle m.put

    made_fits : length rs ≤ list_limit → CutFits xs ys rs cut
    made_fits few = record { front = m.front; back = m.back; few = few; own = (rows_in xs end l rs ps c).0; put = put_in_ys.0 }

    made_count : cut_count (length rs) cut ≡ length qs
    unfolding cut_count
    made_count =
        ap (λ n. cut.front + n + (length rs - cut.back)) put_in_ys.2
        ∙ sym (ap length m.is ∙ simp (length-append, length-take, length-drop) (omega (arith, same_size, m.front, m.back)))

    made_form : cut_form xs ys rs cut ≡ write_list qs
    unfolding cut_form write_list
    made_form =
        let f = take cut.front rs in
        let b = drop cut.back rs in
        let before_is = carried_take xs end cut.front rs ps c in
        let behind_is = carried_drop xs end cut.back rs ps c in
        let n = names_behind first_named (take cut.front ps) in
        let k = names_behind n m.middle in
        let forms : rows_form xs first_named f
        ++ (rows_form ys (number_behind first_named f) (put_rows cut.put)
        ++ rows_form xs (number_behind (number_behind first_named f) (put_rows cut.put)) b)
        ≡ write_properties first_named qs =
        rw (
          numbers_in xs end l first_named f (take cut.front ps) before_is,
          numbers_in ys (length ys) (omega arith) n (put_rows cut.put) m.middle m.put,
          (rows_in xs end l f (take cut.front ps) before_is).1 first_named,
          put_in_ys.1 n,
          (rows_in xs end l b (drop cut.back ps) behind_is).1 k,
          m.is,
          properties_append first_named (take cut.front ps) (m.middle ++ drop cut.back ps),
          properties_append n m.middle (drop cut.back ps),
        ) in
        rw made_count (ap (λ l. le 4 (length qs) ++ l) forms)

-- What is written of rows that carry a list, where a change means k.
pub record CutWrites (xs ys : List ℕ) (rs : List PropertyRow) (c : Cut) (qs : List Property) : Type 0 where
  pub fits : CutFits xs ys rs c
  pub count : cut_count (length rs) c ≡ length qs
  pub form : cut_form xs ys rs c ≡ write_list qs

pub cut_writes : (xs ys : List ℕ) (end : ℕ) → end ≤ length xs → (rs : List PropertyRow) (ps : List Property) → Carried xs end rs ps → length rs ≤ list_limit
    → (listing : Listing) (k : spec.Listing) → ListingMeans ys listing k → (c : Cut) → c ≡ cut_of rs listing → CutWrites xs ys rs c (list_after k ps)
cut_writes xs ys end l rs ps h few listing k m c e =
    let made = cut_made xs ys end l rs ps h listing k m in
    rw e (record {
      fits = made_fits xs ys end l rs ps h (cut_of rs listing) (list_after k ps) made few;
      count = made_count xs ys end l rs ps h (cut_of rs listing) (list_after k ps) made;
      form = made_form xs ys end l rs ps h (cut_of rs listing) (list_after k ps) made;
    })
