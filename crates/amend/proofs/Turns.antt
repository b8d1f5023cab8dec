-- The rows of a table, one after another, of which one is changed or left out.
use Rattle.std.proofs.Common.{◌≡◌, ℕ, suc, ◌+◌, Bool, true, false, cond, eqb, List, map, Some, None, Ok, Option, sym, refl, ap, ◌∙◌, subst, append-nil, arith}
use Rattle.std.specs.List.{flat_map}
use Rattle.source.proofs.Outcomes.{ok_same}
use Rattle.pen.specs.Pen.{Wrote, Leads}
use Rattle.pen.specs.declared.Pen.{Pen}
use Rattle.pen.proofs.Pens.{pen_none, leads_on, leads_end}
use Rattle.property.specs.Fields.{At, at, repeated}
use Rattle.property.specs.Lists.{Property, list_at, indexed}
use Rattle.property.specs.Writing.{write_list}
use Rattle.listform.proofs.WalkSteps.{repeated_first, repeated_nothing}
use Rattle.form.proofs.Holds.{joined_append}
use Rattle.editing.specs.Amendments as spec
use Rattle.editing.specs.Amendments.{list_after}
use Rattle.amend.specs.Changes.{ListingMeans, RowingMeans}
use Rattle.amend.specs.Tables.{turn_of, turns_to, TurnMeans, turn_after, rows_from, TurnWritten, RowsWritten}
use Rattle.amend.specs.declared.changes.Listing.{Listing}
use Rattle.amend.specs.declared.changes.Listing.TheVariants.{Same}
use Rattle.amend.specs.declared.changes.Change.{Change}
use Rattle.amend.specs.declared.changes.Change.TheVariants.{Kept, Added, Removed, Changed}

module _ (ys : List ℕ) where
  pub turn_some : (turn : Option Listing) (l : Listing) → turn ≡ Some l → (t : Option spec.Listing) → TurnMeans ys turn t
      → (k : spec.Listing) × (t ≡ Some k) × ListingMeans ys l k
  turn_some turn l e None m = absurd (let n : TurnMeans ys (Some l) None = rw e at m in n)
  turn_some turn l e (Some k) m = (k, refl, rw e at m)

  pub turn_none : (turn : Option Listing) → turn ≡ None → (t : Option spec.Listing) → TurnMeans ys turn t → t ≡ None
  turn_none turn e None m = refl
  turn_none turn e (Some k) m = absurd (let n : TurnMeans ys None (Some k) = rw e at m in n)

  -- What becomes of a row in the code, and what it means.
  tested : (b : Bool) (o p : Option Listing) (s t : Option spec.Listing) → TurnMeans ys o s → TurnMeans ys p t → TurnMeans ys (cond b o p) (cond b s t)
  tested true o p s t m n = m
  tested false o p s t m n = n

  pub turn_meant : (rowing : Change Listing) (ρ : spec.Rowing) → RowingMeans ys rowing ρ → (i : ℕ) → TurnMeans ys (turn_of rowing i) (turns_to ρ i)
  turn_meant Kept spec.as_they_are m i = tt
  turn_meant Kept spec.row_added m i = absurd m
  turn_meant Kept (spec.row_removed r) m i = absurd m
  turn_meant Kept (spec.row_changed r l) m i = absurd m
  turn_meant Added spec.as_they_are m i = absurd m
  turn_meant Added spec.row_added m i = tt
  turn_meant Added (spec.row_removed r) m i = absurd m
  turn_meant Added (spec.row_changed r l) m i = absurd m
  turn_meant (Removed q) spec.as_they_are m i = absurd m
  turn_meant (Removed q) spec.row_added m i = absurd m
  turn_meant (Removed q) (spec.row_removed r) m i = rw m (tested (eqb i r) None (Some Same) None (Some spec.same) tt tt)
  turn_meant (Removed q) (spec.row_changed r l) m i = absurd m
  turn_meant (Changed q k) spec.as_they_are m i = absurd m
  turn_meant (Changed q k) spec.row_added m i = absurd m
  turn_meant (Changed q k) (spec.row_removed r) m i = absurd m
  turn_meant (Changed q k) (spec.row_changed r l) m i = rw m.0 (tested (eqb i r) (Some k) (Some Same) (Some l) (Some spec.same) m.1 tt)

pub turn_there : (ys ys' : List ℕ) → ys' ≡ ys → (turn : Option Listing) (rowing : Change Listing) (ρ : spec.Rowing) (i : ℕ) → turn ≡ turn_of rowing i → RowingMeans ys rowing ρ
    → TurnMeans ys' turn (turns_to ρ i)
turn_there ys ys' e turn rowing ρ i is m =
    let P : List ℕ → Type 0 = λ zs. TurnMeans zs turn (turns_to ρ i) in
    subst P (sym e) (rw is (turn_meant ys rowing ρ m i))

-- One list, changed or left out.
module _ (xs ys : List ℕ) (turn : Option Listing) (place end : ℕ) (ps : List Property) (next : ℕ) (is : list_at xs end place ≡ Ok (at ps next)) where
  pub turn_writes : (l : Listing) → turn ≡ Some l → {before after : Pen}
      → ((k : spec.Listing) → ListingMeans ys l k → Wrote before (write_list (list_after k (indexed ps))) after)
      → TurnWritten xs ys turn place end before after (Some next)
  turn_writes l e wrote t m a f =
      let (k, is-k, means) = turn_some ys turn l e t m in
      let same : at ps next ≡ a = ok_same _ _ (sym is ∙ f) in
      rw (is-k, ← same) (refl, rw (append-nil (write_list (list_after k (indexed ps)))) (wrote k means))

  pub turn_leaves : turn ≡ None → {pen : Pen} → TurnWritten xs ys turn place end pen pen (Some next)
  turn_leaves e t m a f =
      let none = turn_none ys turn e t m in
      let same : at ps next ≡ a = ok_same _ _ (sym is ∙ f) in
      rw (none, ← same) (refl, pen_none)

-- Of `count` lists from `place` on, those from the i-th on are left, at p: whoever writes what becomes of them has written all.
abbrev pub Left : (xs ys : List ℕ) → Change Listing → (end count place : ℕ) → Pen → (i n p : ℕ) → Pen → Type 0
Left xs ys rowing end count place before i n p pen =
    (ρ : spec.Rowing) → RowingMeans ys rowing ρ → (a : At (List (List Property))) → repeated (list_at xs end) count place ≡ Ok a
    → (b : At (List (List Property))) × (repeated (list_at xs end) n p ≡ Ok b)
    × Leads before (flat_map write_list (rows_from ρ 0 (map indexed a.what))) pen (flat_map write_list (rows_from ρ i (map indexed b.what)))

module _ (xs ys : List ℕ) (rowing : Change Listing) (end count place : ℕ) (before : Pen) where
  pub left_more : (ys' : List ℕ) → ys' ≡ ys → (i n m p : ℕ) (pen pen' : Pen) (turn : Option Listing) (q : ℕ) → turn ≡ turn_of rowing i → n ≡ suc m
      → Left xs ys rowing end count place before i n p pen → TurnWritten xs ys' turn p end pen pen' (Some q)
      → Left xs ys rowing end count place before (i + 1) m q pen'
  left_more ys' d i n m p pen pen' turn q is e left one ρ means a f =
      let (b, g, leads) = left ρ means a f in
      let (h, rest, k, t, same) = repeated_first (list_at xs end) n m p b e (sym g) in
      let (next, wrote) = one (turns_to ρ i) (turn_there ys ys' d turn rowing ρ i is means) h (sym k) in
      let on : q ≡ h.next = cc in (
        rest,
        rw on (sym t),
        leads_on leads (ap (λ (b : At (List (List Property))). flat_map write_list (rows_from ρ i (map indexed b.what))) same
            ∙ joined_append write_list (turn_after (turns_to ρ i) (indexed h.what)) (rows_from ρ (i + 1) (map indexed rest.what))) wrote,
      )

  -- Where no list is left to read, there were not so many.
  pub left_lost : (ys' : List ℕ) → ys' ≡ ys → (i n m p : ℕ) (pen pen' : Pen) (turn : Option Listing) → turn ≡ turn_of rowing i → n ≡ suc m
      → Left xs ys rowing end count place before i n p pen → TurnWritten xs ys' turn p end pen pen' None
      → RowsWritten xs ys rowing count place end before pen'
  left_lost ys' d i n m p pen pen' turn is e left one ρ means a f =
      let (b, g, _) = left ρ means a f in
      let (h, _, k, _, _) = repeated_first (list_at xs end) n m p b e (sym g) in
      let q = (one (turns_to ρ i) (turn_there ys ys' d turn rowing ρ i is means) h (sym k)).0 in
      let z : ◌≡◌ {A = ℕ} 0 1 = cc in absurd (omega arith)

  pub left_none : (i n p : ℕ) (pen : Pen) → n ≡ 0 → Left xs ys rowing end count place before i n p pen → RowsWritten xs ys rowing count place end before pen
  left_none i n p pen e left ρ means a f =
      let (b, g, leads) = left ρ means a f in
      leads_end leads (ap (λ (b : At (List (List Property))). flat_map write_list (rows_from ρ i (map indexed b.what))) (repeated_nothing (list_at xs end) n p b e (sym g)))
