-- Rows that carry properties, one added after another.
use Rattle.std.proofs.Common.{◌≡◌, ℕ, suc, ◌+◌, ◌≤◌, false, List, [], ◌∷◌, ◌++◌, length, take, Ok, Err, sym, refl, ap, inl, inr, arith}
use Rattle.std.proofs.lemmas.List.{append-nil, append_assoc, length_push, length-take, length-take-le}
use Rattle.std.proofs.lemmas.List.Sums.{fold_push}
use Rattle.std.proofs.lemmas.Bool.{cases_Bool, le-leb}
use Rattle.source.specs.Outcome.{Outcome, ◌>>=◌, given, over}
use Rattle.source.proofs.Outcomes.{bind_got, ok_same}
use Rattle.source.specs.declared.refusals.Reason.TheVariants.{FieldRule}
use Rattle.source.specs.declared.refusals.Refusal.{Refusal}
use Rattle.index.specs.Keys.{key_of}
use Rattle.index.specs.Rows.{has, added}
use Rattle.index.specs.declared.properties.PropertyRow.{PropertyRow}
use Rattle.property.specs.Fields.{At, at, repeated}
use Rattle.property.specs.Indexing.{same_row, Carried, listed}
use Rattle.property.specs.Kinds.{shape_of}
use Rattle.property.specs.Lists.{Property, property_from, list_at, list_limit, same_property, indexed}
use Rattle.property.specs.Rows.{Carries}
use Rattle.property.specs.Values.{values_at}

module _ (xs : List ℕ) (end : ℕ) where
  -- A row has the key of the property that it carries.
  pub carries_key : (row : PropertyRow) (p : Property) → Carries xs end row p → key_of row.key ≡ p.key
  unfolding property_from
  carries_key row p (start, e) =
      let (s, _, f) = bind_got (given (shape_of row.number) FieldRule start) _ _ (sym e) in
      let (v, _, h) = bind_got (values_at xs end start s row.values) _ _ f in
      sym (ap (λ (a : At Property). a.what.key) (ok_same _ _ h))

  has_carried : (rs : List PropertyRow) (ps : List Property) (row : PropertyRow) (p : Property) → Carried xs end rs ps → Carries xs end row p
      → has same_row rs row ≡ has same_property ps p
  has_carried [] [] row p c h = refl
  has_carried [] (q ∷ ps) row p c h = absurd c
  has_carried (r ∷ rs) [] row p c h = absurd c
  has_carried (r ∷ rs) (q ∷ ps) row p c h =
      rw (carries_key r q c.0, carries_key row p h, has_carried rs ps row p c.1 h)

  carried_push : (rs : List PropertyRow) (ps : List Property) (row : PropertyRow) (p : Property) → Carried xs end rs ps → Carries xs end row p
      → Carried xs end (rs ++ row ∷ []) (ps ++ p ∷ [])
  carried_push [] [] row p c h = (h, tt)
  carried_push [] (q ∷ ps) row p c h = absurd c
  carried_push (r ∷ rs) [] row p c h = absurd c
  carried_push (r ∷ rs) (q ∷ ps) row p c h = (c.0, carried_push rs ps row p c.1 h)

  carried_added : (rs : List PropertyRow) (ps : List Property) (row : PropertyRow) (p : Property) → Carried xs end rs ps → Carries xs end row p
      → Carried xs end (added same_row false rs row) (added same_property false ps p)
  carried_added rs ps row p c h =
      let e = has_carried rs ps row p c h in
      elim (cases_Bool (has same_property ps p)) [
        | inl t ↦ rw (e, t) c
        | inr f ↦ rw (e, f) (carried_push rs ps row p c h)
      ]

length_added : (rs : List PropertyRow) (row : PropertyRow) → length (added same_row false rs row) ≤ length rs + 1
length_added rs row =
    elim (cases_Bool (has same_row rs row)) [
      | inl t ↦ rw t (omega arith)
      | inr f ↦ rw f (omega (arith, length_push rs row))
    ]

-- One more row at most.
pub count_added : (n used : ℕ) (start after : List PropertyRow) (row : PropertyRow) → n ≤ length after → take n after ≡ added same_row false (take used start) row → n ≤ used + 1
count_added n used start after row h e =
    omega (arith, length-take-le n after h, ap length e, length_added (take used start) row, length-take used start)

indexed_more : (ps : List Property) (p : Property) → indexed (ps ++ p ∷ []) ≡ added same_property false (indexed ps) p
indexed_more ps p = fold_push (added same_property false) [] ps p

-- What was read before, and what is read from here on.
abbrev pub behind_front : {A : Type 0} → List A → Outcome (At (List A)) → Outcome (At (List A))
behind_front front o = over (λ a. at (front ++ a.what) a.next) o

module _ {A : Type 0} (read : ℕ → Outcome (At A)) where
  pub front_none : (n p : ℕ) → repeated read n p ≡ behind_front [] (repeated read n p)
  front_none n p = whole (repeated read n p)
    where
      whole : (o : Outcome (At (List A))) → o ≡ behind_front [] o
      whole (Ok a) = refl
      whole (Err r) = refl

  pub front_lost : (n m p : ℕ) (front : List A) (r : Refusal) → n ≡ suc m → read p ≡ Err r → behind_front front (repeated read n p) ≡ Err r
  unfolding repeated ◌>>=◌
  front_lost n m p front r e h = rw (e, h)

  pub front_more : (n m p : ℕ) (front : List A) (a : At A) → n ≡ suc m → read p ≡ Ok a
      → behind_front front (repeated read n p) ≡ behind_front (front ++ a.what ∷ []) (repeated read m a.next)
  unfolding repeated ◌>>=◌
  front_more n m p front a e h = rw (e, h) (regroup (repeated read m a.next))
    where
      regroup : (o : Outcome (At (List A))) → behind_front front (o >>= (λ rest. Ok (at (a.what ∷ rest.what) rest.next))) ≡ behind_front (front ++ a.what ∷ []) o
      regroup (Ok rest) = ap (λ l. Ok (at l rest.next)) (sym (append_assoc front (a.what ∷ []) rest.what))
      regroup (Err r) = refl

  pub front_all : (n p : ℕ) (front : List A) → n ≡ 0 → behind_front front (repeated read n p) ≡ Ok (at front p)
  unfolding repeated
  front_all n p front e = rw (e, append-nil front)

pub carried_more : (xs : List ℕ) (end : ℕ) (rs after : List PropertyRow) (ps : List Property) (row : PropertyRow) (p : Property)
    → Carried xs end rs (indexed ps) → Carries xs end row p → after ≡ added same_row false rs row → Carried xs end after (indexed (ps ++ p ∷ []))
carried_more xs end rs after ps row p c h e = rw (e, indexed_more ps p) (carried_added xs end rs (indexed ps) row p c h)

-- The list where there is room for it.
module _ (xs : List ℕ) (end place room : ℕ) where
  pub listed_room : list_limit ≤ room → listed xs end place room ≡ list_at xs end place
  unfolding listed
  listed_room h = rw (le-leb list_limit room h)
