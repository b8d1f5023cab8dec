-- Rows that carry the properties of a list.
use Rattle.std.proofs.Common.{◌≡◌, ℕ, zero, suc, ◌+◌, ◌<◌, ◌≤◌, Bool, true, false, cond, List, [], ◌∷◌, map, length, take, Some, None, Ok, Option, sym, refl, ap, ◌∙◌, inl, inr, one-add, arith}
use Rattle.std.proofs.lemmas.List.{length-take-le}
use Rattle.std.proofs.lemmas.Bool.{cases_Bool}
use Rattle.source.proofs.Outcomes.{ok_same}
use Rattle.index.specs.Keys.{key_of, same_key}
use Rattle.index.specs.Rows.{has, before, position}
use Rattle.index.specs.declared.properties.PropertyRow.{PropertyRow}
use Rattle.property.specs.declared.indexing.Listed.{Listed}
use Rattle.property.specs.Fields.{At, at, data_end}
use Rattle.property.specs.Indexing.{same_row, Carried, ListedBy, listed}
use Rattle.property.specs.Lists.{Property, list_at, list_limit, recipient_table, indexed}
use Rattle.property.proofs.Carrying.{carries_key}
use Rattle.message.specs.Sameness.{nth, row_holding}
use Rattle.listform.specs.Forms.{number_there}
use Rattle.listform.proofs.ListForms.{table_in}
use Rattle.form.specs.Indices.{ListIndexed}
use Rattle.form.proofs.Indices.{indexed_here}
use Rattle.lookup.specs.Listing.{Carrying, CarriesAny, CarriesList, Reaches, KeyFound}
use Rattle.lookup.proofs.Reaching.{nth_drop, reach_first}

carried_length : (xs : List ℕ) (end : ℕ) (rs : List PropertyRow) (ps : List Property) → Carried xs end rs ps → length rs ≡ length ps
carried_length xs end [] [] c = refl
carried_length xs end [] (p ∷ ps) c = absurd c
carried_length xs end (r ∷ rs) [] c = absurd c
carried_length xs end (r ∷ rs) (p ∷ ps) c = ap suc (carried_length xs end rs ps c.1)

-- The rows of an index, one for each property.
pub carrying_indexed : (xs : List ℕ) (rows : List PropertyRow) (n : ℕ) (ps : List Property) → n ≤ length rows → ListIndexed xs (take n rows) ps
    → Carrying xs rows n (indexed ps)
carrying_indexed xs rows n ps fits i = record {
  end = i.end;
  within = i.within;
  room = fits;
  counted = sym (length-take-le n rows fits) ∙ carried_length xs i.end (take n rows) (indexed ps) i.carried;
  carried = i.carried;
}

-- The list that was read at a place.
pub carrying_list : (xs : List ℕ) (end place room : ℕ) → end ≤ length xs → list_limit ≤ room → (a : At (List Property)) → list_at xs end place ≡ Ok a
    → (after : List PropertyRow) (r : Listed) → ListedBy xs (data_end xs end) (listed xs (data_end xs end) place room) after (Ok r)
    → Carrying xs after r.count (indexed a.what)
carrying_list xs end place room l m a is after r h =
    let (ps, read, i, fits) = indexed_here xs end place room l m after r h in
    let what : ps ≡ a.what = ap (λ (x : At (List Property)). x.what) (ok_same _ _ (sym read ∙ is)) in
    rw (← what) (carrying_indexed xs after r.count ps fits i)

-- The list that a walk over a table has come to.
pub list_there : (xs : List ℕ) (base end : ℕ) (ts : List (List Property)) → recipient_table xs base end ≡ Ok ts → (k start : ℕ) → k < length ts
    → Reaches (list_at xs end) k (base + 4) start → (a : At (List Property)) × (list_at xs end start ≡ Ok a) × (nth ts k ≡ Some a.what)
list_there xs base end ts e k start h r =
    let (_, counted, read) = table_in xs end base ts e in
    let (b, rest, is, w, _) = reach_first (list_at xs end) k (base + 4) start (number_there xs base) (at ts end) r (omega arith) read in
    (b, is, nth_drop ts k b.what rest w)

-- The rows of a message are the indexed lists of its table.
module _ {A B : Type 0} (f : A → B) where
  nth_map_none : (l : List A) (k : ℕ) → nth l k ≡ None → nth (map f l) k ≡ None
  nth_map_none [] k e = refl
  nth_map_none (x ∷ l) zero e = let z : ◌≡◌ {A = ℕ} 0 1 = cc in absurd (omega arith)
  nth_map_none (x ∷ l) (suc k) e = nth_map_none l k e

  nth_map_some : (l : List A) (k : ℕ) (x : A) → nth l k ≡ Some x → nth (map f l) k ≡ Some (f x)
  nth_map_some [] k x e = let z : ◌≡◌ {A = ℕ} 0 1 = cc in absurd (omega arith)
  nth_map_some (y ∷ l) zero x e = let s : y ≡ x = cc in ap (λ y. Some (f y)) s
  nth_map_some (y ∷ l) (suc k) x e = nth_map_some l k x e

pub row_carried : (xs : List ℕ) (lent : List PropertyRow) (ts rs : List (List Property)) → map indexed ts ≡ rs → (k : ℕ) (r : Option ℕ)
    → CarriesList xs lent (nth ts k) r → CarriesAny xs lent (row_holding (nth rs k)) r
row_carried xs lent ts rs e k None c = rw (← e, nth_map_none indexed ts k c)
row_carried xs lent ts rs e k (Some n) (ps, is, c) = rw (← e, nth_map_some indexed ts k ps is) (_, refl, c)

-- The row of a key.
abbrev next_of : Option ℕ → Option ℕ
next_of None = None
next_of (Some i) = Some (suc i)

module _ (xs : List ℕ) (end : ℕ) (probe : PropertyRow) where
  position_skip : (r : PropertyRow) (rs : List PropertyRow) → same_row r probe ≡ false → position same_row (r ∷ rs) probe ≡ next_of (position same_row rs probe)
  position_skip r rs e = rw e (by_has (has same_row rs probe) (before same_row rs probe))
    where
      by_has : (b : Bool) (n : ℕ) → cond b (Some (1 + n)) None ≡ next_of (cond b (Some n) None)
      by_has true n = ap Some (one-add n)
      by_has false n = refl

  key_skip : (r : PropertyRow) (rs : List PropertyRow) (p : Property) (ps : List Property) (o : Option ℕ) → same_key p.key (key_of probe.key) ≡ false
      → KeyFound xs end rs ps (key_of probe.key) o → KeyFound xs end (r ∷ rs) (p ∷ ps) (key_of probe.key) (next_of o)
  key_skip r rs p ps None e (a, b) = rw e (a, b)
  key_skip r rs p ps (Some i) e (a, h, q, b, c) = rw e (a, omega arith, q, b, c)

  pub key_found : (rs : List PropertyRow) (ps : List Property) → Carried xs end rs ps → KeyFound xs end rs ps (key_of probe.key) (position same_row rs probe)
  key_found [] [] c = (refl, refl)
  key_found [] (p ∷ ps) c = absurd c
  key_found (r ∷ rs) [] c = absurd c
  key_found (r ∷ rs) (p ∷ ps) c =
      let k = carries_key xs end r p c.0 in
      elim (cases_Bool (same_row r probe)) [
        | inl t ↦
            let u : same_key p.key (key_of probe.key) ≡ true = rw (← k) t in
            rw (t, u) (refl, omega arith, p, refl, λ d. c.0)
        | inr f ↦
            let u : same_key p.key (key_of probe.key) ≡ false = rw (← k) f in
            rw (position_skip r rs f) (key_skip r rs p ps (position same_row rs probe) u (key_found rs ps c.1))
      ]
