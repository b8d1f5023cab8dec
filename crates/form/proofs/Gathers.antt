-- Rows of a target that are gathered frame by frame.
use Rattle.std.proofs.Common.{◌≡◌, ℕ, ◌+◌, ◌<◌, ◌≤◌, Bool, true, false, cond, ◌&&◌, ◌||◌, eqb, ltb, List, [], ◌∷◌, ◌++◌, map, length, Some, None, Option, sym, refl, ap, ◌∙◌, inl, inr, arith}
use Rattle.std.specs.Prelude.{find as first_such}
use Rattle.std.specs.List.{AllByRecursion}
use Rattle.std.proofs.lemmas.List.{length-append}
use Rattle.std.proofs.ByRecursion.{All-push}
use Rattle.std.proofs.lemmas.Bool.{cases_Bool, cases_eq, both_ways, lt-ltb, eq-eqb, ne_eqb}
use Rattle.std.proofs.lemmas.Bool.Decides.{nat_tests}
use Rattle.attribute.specs.Table.{attributes, find, attribute_of, rendering_id}
use Rattle.attribute.specs.declared.Attribute.{Attribute}
use Rattle.frame.specs.Frames.{next_frame}
use Rattle.frame.specs.declared.Frame.{Frame}
use Rattle.frame.specs.declared.stages.Stage.{Stage}
use Rattle.frame.proofs.Standing.{Stands}
use Rattle.contents.specs.Writing.{known}
use Rattle.index.specs.declared.attributes.AttributeRow.{AttributeRow}
use Rattle.index.specs.Rows.{has, added}
use Rattle.stream.specs.Reading.{Entry}
use Rattle.stream.specs.Messages.{or_else, message_part}
use Rattle.form.specs.Targets.{remaining, Readable, own_part, later_part, past_part, row_entry, Standing, frame_row, own_next, entry_under, row_under, same_id, AsWritten, NormalRow, Taken}
use Rattle.form.proofs.Walks.{steps, ends}
use Rattle.form.proofs.Normals.{frame_normal, written_on}

-- What comes first, of three.
or_assoc : {A : Type 0} (a b c : Option A) → or_else (or_else a b) c ≡ or_else a (or_else b c)
or_assoc (Some x) b c = refl
or_assoc None b c = refl

or_none : {A : Type 0} (a : Option A) → or_else a None ≡ a
or_none (Some x) = refl
or_none None = refl

or_cond : {A : Type 0} (t : Bool) (x : A) (o u : Option A) → or_else (cond t (Some x) o) u ≡ cond t (Some x) (or_else o u)
or_cond true x o u = refl
or_cond false x o u = refl

under_cons : (i : ℕ) (e : Entry) (es : List Entry) → entry_under i (e ∷ es) ≡ or_else (entry_under i (e ∷ [])) (entry_under i es)
under_cons i e es = sym (or_cond (eqb e.id i) e None (entry_under i es))

module _ (xs : List ℕ) (i : ℕ) (r : AttributeRow) where
  under_push : (rs : List AttributeRow)
      → entry_under i (map (row_entry xs) (rs ++ r ∷ [])) ≡ or_else (entry_under i (map (row_entry xs) rs)) (entry_under i (row_entry xs r ∷ []))
  under_push [] = refl
  under_push (q ∷ rs) =
      ap (λ o. cond (eqb (row_entry xs q).id i) (Some (row_entry xs q)) o) (under_push rs)
      ∙ sym (or_cond (eqb (row_entry xs q).id i) (row_entry xs q) _ _)

  passed : (r.id ≡ i → ⊥) → entry_under i (row_entry xs r ∷ []) ≡ None
  unfolding row_entry
  passed n = rw (ne_eqb r.id i n)

  under_had : (rs : List AttributeRow) → has same_id rs r ≡ true
      → or_else (entry_under i (map (row_entry xs) rs)) (entry_under i (row_entry xs r ∷ [])) ≡ entry_under i (map (row_entry xs) rs)
  unfolding row_entry
  under_had [] h = absurd (both_ways false refl h)
  under_had (q ∷ rs) h = elim (cases_eq q.id i) [
    | inl e ↦ rw (eq-eqb q.id i e)
    | inr n ↦ rw (ne_eqb q.id i n) (elim (cases_eq q.id r.id) [
      | inl e ↦ rw (passed (λ d. n (e ∙ d))) (or_none _)
      | inr m ↦ under_had rs (rw (ne_eqb q.id r.id m) at h)
    ])
  ]

  under_added : (rs : List AttributeRow)
      → entry_under i (map (row_entry xs) (added same_id false rs r)) ≡ or_else (entry_under i (map (row_entry xs) rs)) (entry_under i (row_entry xs r ∷ []))
  under_added rs = elim (cases_Bool (has same_id rs r)) [
    | inl t ↦ rw t (sym (under_had rs t))
    | inr f ↦ rw f (under_push rs)
  ]

  held_more : (rs : List AttributeRow) (es : List Entry)
      → or_else (entry_under i (map (row_entry xs) rs)) (entry_under i (row_entry xs r ∷ es))
      ≡ or_else (entry_under i (map (row_entry xs) (added same_id false rs r))) (entry_under i es)
  held_more rs es =
      ap (or_else (entry_under i (map (row_entry xs) rs))) (under_cons i (row_entry xs r) es)
      ∙ sym (or_assoc (entry_under i (map (row_entry xs) rs)) _ _)
      ∙ ap (λ o. or_else o (entry_under i es)) (sym (under_added rs))

-- How many attributes of a table have a row: each row has one of its own, so there are no more rows than attributes.
abbrev has_row : ℕ → List AttributeRow → Bool
has_row i [] = false
has_row i (r ∷ rs) = eqb r.id i || has_row i rs

abbrev pub covered : List AttributeRow → List Attribute → ℕ
covered rs [] = 0
covered rs (a ∷ table) = cond (has_row a.id rs) 1 0 + covered rs table

has_is : (rs : List AttributeRow) (r : AttributeRow) → has same_id rs r ≡ has_row r.id rs
has_is [] r = refl
has_is (q ∷ rs) r = ap (λ b. eqb q.id r.id || b) (has_is rs r)

pub covered_most : (rs : List AttributeRow) (table : List Attribute) → covered rs table ≤ length table
covered_most rs [] = omega arith
covered_most rs (a ∷ table) = let h = covered_most rs table in elim (cases_Bool (has_row a.id rs)) [ inl t ↦ rw t (omega arith) | inr f ↦ rw f (omega arith) ]

module _ (r : AttributeRow) where
  row_push : (i : ℕ) (rs : List AttributeRow) → has_row i (rs ++ r ∷ []) ≡ (has_row i rs || eqb r.id i)
  row_push i [] = grind arith
  row_push i (q ∷ rs) = rw (row_push i rs) (turn (eqb q.id i) (has_row i rs) (eqb r.id i))
    where
      turn : (a b c : Bool) → (a || (b || c)) ≡ ((a || b) || c)
      turn true b c = refl
      turn false b c = refl

  one_at : (b c : Bool) → cond b 1 0 ≤ cond (b || c) 1 0
  one_at true c = omega arith
  one_at false c = elim c as (λ d. 0 ≤ cond d 1 0) [ true ↦ omega arith | false ↦ omega arith ]

  covered_kept : (rs : List AttributeRow) (table : List Attribute) → covered rs table ≤ covered (rs ++ r ∷ []) table
  covered_kept rs [] = omega arith
  covered_kept rs (a ∷ table) =
      let h = covered_kept rs table in
      rw (row_push a.id rs) (omega (arith, one_at (has_row a.id rs) (eqb r.id a.id)))

  covered_new : (rs : List AttributeRow) (table : List Attribute) (b : Attribute) → find table r.id ≡ Some b → has_row r.id rs ≡ false
      → covered rs table + 1 ≤ covered (rs ++ r ∷ []) table
  covered_new rs [] b e n = let z : ◌≡◌ {A = ℕ} 0 1 = cc in absurd (omega arith)
  covered_new rs (a ∷ table) b e n = elim (cases_eq a.id r.id) [
    | inl d ↦
        let k = covered_kept rs table in
        let m : has_row a.id rs ≡ false = rw d n in
        rw (row_push a.id rs, m, eq-eqb r.id a.id (sym d)) (omega arith)
    | inr d ↦
        let k = covered_new rs table b (rw (ne_eqb a.id r.id d) at e) n in
        rw (row_push a.id rs) (omega (arith, one_at (has_row a.id rs) (eqb r.id a.id)))
  ]

  few_more : (rs : List AttributeRow) (table : List Attribute) (b : Attribute) → find table r.id ≡ Some b → length rs ≤ covered rs table
      → length (added same_id false rs r) ≤ covered (added same_id false rs r) table
  few_more rs table b e h = elim (cases_Bool (has same_id rs r)) [
    | inl t ↦ rw t h
    | inr f ↦ let k = covered_new rs table b e (sym (has_is rs r) ∙ f) in rw f (omega (arith, length-append rs (r ∷ [])))
  ]

  stand_more : (P : AttributeRow → Type 0) (rs : List AttributeRow) → P r → AllByRecursion P rs → AllByRecursion P (added same_id false rs r)
  stand_more P rs p h = elim (cases_Bool (has same_id rs r)) [
    | inl t ↦ rw t h
    | inr f ↦ rw f (All-push P rs r h p)
  ]

  some_row : (rs : List AttributeRow) → 0 < length (added same_id false rs r)
  some_row [] = omega arith
  some_row (q ∷ rs) = elim (cases_Bool (has same_id (q ∷ rs) r)) [
    | inl t ↦ rw t (omega arith)
    | inr f ↦ rw f (omega arith)
  ]

-- The entries that are left of a target of which there are these rows, and those behind them.
abbrev pub left_part : List AttributeRow → List Entry → List Entry
left_part [] es = own_part es
left_part (r ∷ rs) es = message_part es

abbrev pub left_past : List AttributeRow → List Entry → List Entry
left_past [] es = past_part es
left_past (r ∷ rs) es = later_part es

abbrev pub Moved : List AttributeRow → ℕ → ℕ → Type 0
Moved [] p q = p ≡ q
Moved (r ∷ rs) p q = p < q

-- A target that is being gathered from p on, and has come to q.
pub record Gathering (xs : List ℕ) (p : ℕ) (s : Stage) (rows : List AttributeRow) (q : ℕ) (t : Stage) : Type 0 where
  pub good : Readable xs q t
  pub few : length rows ≤ covered rows attributes
  pub sound : AllByRecursion (Standing xs) rows
  pub held : (i : ℕ) → entry_under i (own_part (remaining xs p s)) ≡ or_else (entry_under i (map (row_entry xs) rows)) (entry_under i (left_part rows (remaining xs q t)))
  pub past : past_part (remaining xs p s) ≡ left_past rows (remaining xs q t)
  pub moved : Moved rows p q
  pub along : AsWritten xs p s → AsWritten xs q t
  pub normal : AsWritten xs p s → AllByRecursion (NormalRow xs) rows

-- The frame that comes next is of the target, or it is not.
own_some : (used : ℕ) (o : Option Frame) (f : Frame) → own_next used o ≡ Some f → (o ≡ Some f) × ((ltb 0 used && eqb f.attribute.id rendering_id) ≡ false)
own_some used None f e = let z : ◌≡◌ {A = ℕ} 0 1 = cc in absurd (omega arith)
own_some used (Some h) f e = by_test (ltb 0 used && eqb h.attribute.id rendering_id) refl e
  where
    by_test : (b : Bool) → (ltb 0 used && eqb h.attribute.id rendering_id) ≡ b → cond b None (Some h) ≡ Some f
        → (Some h ≡ Some f) × ((ltb 0 used && eqb f.attribute.id rendering_id) ≡ false)
    by_test true t e = let z : ◌≡◌ {A = ℕ} 0 1 = cc in absurd (omega arith)
    by_test false t e = let q : h ≡ f = cc in (e, rw (← q) t)

left_more : (rows : List AttributeRow) (e : Entry) (es : List Entry) → (ltb 0 (length rows) && eqb e.id rendering_id) ≡ false
    → (left_part rows (e ∷ es) ≡ e ∷ message_part es) × (left_past rows (e ∷ es) ≡ later_part es)
unfolding own_part past_part message_part later_part
left_more [] e es n = (refl, refl)
left_more (r ∷ rows) e es n = let q : eqb e.id rendering_id ≡ false = rw (lt-ltb 0 (length (r ∷ rows)) (omega arith)) at n in (rw q, rw q)

later_on : (rows more : List AttributeRow) (p q r : ℕ) → Moved rows p q → q < r → 0 < length more → Moved more p r
later_on rows [] p q r m h k = absurd (omega arith)
later_on [] (b ∷ more) p q r m h k = omega arith
later_on (a ∷ rows) (b ∷ more) p q r m h k = omega arith

grown_part : (rows : List AttributeRow) (es : List Entry) → 0 < length rows → (left_part rows es ≡ message_part es) × (left_past rows es ≡ later_part es)
grown_part [] es h = absurd (omega arith)
grown_part (r ∷ rows) es h = (refl, refl)

pub gather_more : (xs : List ℕ) (p : ℕ) (s : Stage) (rows : List AttributeRow) (q : ℕ) (t : Stage) (f : Frame) (after : List AttributeRow)
    → Gathering xs p s rows q t → own_next (length rows) (known (next_frame xs q t)) ≡ Some f → after ≡ added same_id false rows (frame_row f)
    → Gathering xs p s after f.next f.stage
unfolding row_entry attribute_of
gather_more xs p s rows q t f after g e a =
    let (o, own) = own_some (length rows) (known (next_frame xs q t)) f e in
    let k = steps xs q t g.good f o in
    let (lp, lq) = left_more rows (row_entry xs (frame_row f)) (remaining xs f.next f.stage) own in
    let m : 0 < length after = rw a (some_row (frame_row f) rows) in
    let (gp, gq) = grown_part after (remaining xs f.next f.stage) m in
    record {
      good = k.after;
      few = rw a (few_more (frame_row f) rows attributes f.attribute k.placed.known g.few);
      sound = rw a (stand_more (frame_row f) (Standing xs) rows k.row g.sound);
      held = λ i. g.held i ∙ ap (λ es. or_else (entry_under i (map (row_entry xs) rows)) (entry_under i es)) (ap (left_part rows) k.more ∙ lp)
          ∙ held_more xs i (frame_row f) rows (message_part (remaining xs f.next f.stage))
          ∙ rw (gp, a);
      past = g.past ∙ ap (left_past rows) k.more ∙ lq ∙ sym gq;
      moved = later_on rows after p q f.next g.moved (omega (arith, k.stands.next)) m;
      along = λ w. written_on xs q t f k (g.along w);
      normal = λ w. rw a (stand_more (frame_row f) (NormalRow xs) rows (frame_normal xs q t f k (g.along w)) (g.normal w));
    }

pub gather_stands : (xs : List ℕ) (p : ℕ) (s : Stage) (rows : List AttributeRow) (q : ℕ) (t : Stage) (f : Frame)
    → Gathering xs p s rows q t → own_next (length rows) (known (next_frame xs q t)) ≡ Some f → Stands xs q f
gather_stands xs p s rows q t f g e = (steps xs q t g.good f (own_some (length rows) (known (next_frame xs q t)) f e).0).stands

-- What is left where the next frame is not the target's.
module _ (xs : List ℕ) (p : ℕ) (s : Stage) (rows : List AttributeRow) (q : ℕ) (t : Stage) (g : Gathering xs p s rows q t) where
  done_by : left_part rows (remaining xs q t) ≡ [] → left_past rows (remaining xs q t) ≡ remaining xs q t → (p < length xs → p < q)
      → Taken xs p s rows q t
  done_by a b on = record {
    gathered = record {
      held = λ i. sym (g.held i ∙ ap (λ es. or_else (entry_under i (map (row_entry xs) rows)) (entry_under i es)) a ∙ or_none _);
      sound = g.sound;
    };
    rest = sym (g.past ∙ b);
    after = g.good;
    onward = on;
  }

left_none : (rows : List AttributeRow) → (left_part rows [] ≡ []) × (left_past rows [] ≡ [])
unfolding own_part past_part message_part later_part
left_none [] = (refl, refl)
left_none (r ∷ rows) = (refl, refl)

left_other : (r : AttributeRow) (rows : List AttributeRow) (e : Entry) (es : List Entry) → e.id ≡ rendering_id
    → (left_part (r ∷ rows) (e ∷ es) ≡ []) × (left_past (r ∷ rows) (e ∷ es) ≡ e ∷ es)
unfolding message_part later_part
left_other r rows e es h = rw (eq-eqb e.id rendering_id h) (refl, refl)

onward_end : (rows : List AttributeRow) (p q n : ℕ) → Moved rows p q → q ≡ n → p < n → p < q
onward_end [] p q n m e h = omega arith
onward_end (r ∷ rows) p q n m e h = m

own_none : (used : ℕ) (f : Frame) → own_next used (Some f) ≡ None → (0 < used) × (f.attribute.id ≡ rendering_id)
own_none used f e = grind (arith, nat_tests)

pub gather_end : (xs : List ℕ) (p : ℕ) (s : Stage) (rows : List AttributeRow) (q : ℕ) (t : Stage)
    → Gathering xs p s rows q t → own_next (length rows) (known (next_frame xs q t)) ≡ None → Taken xs p s rows q t
unfolding row_entry
gather_end xs p s rows q t g e = by_next (known (next_frame xs q t)) refl e
  where
    by_next : (o : Option Frame) → known (next_frame xs q t) ≡ o → own_next (length rows) o ≡ None → Taken xs p s rows q t
    by_next None o e =
        let (r, l, _) = ends xs q t g.good o in
        let (a, b) = left_none rows in
        done_by xs p s rows q t g (ap (left_part rows) r ∙ a) (ap (left_past rows) r ∙ b ∙ sym r) (onward_end rows p q (length xs) g.moved l)
    by_next (Some f) o e = other rows g (own_none (length rows) f e).0 (own_none (length rows) f e).1
      where
        other : (rows : List AttributeRow) → Gathering xs p s rows q t → 0 < length rows → f.attribute.id ≡ rendering_id → Taken xs p s rows q t
        other [] g h i = absurd (omega arith)
        other (r ∷ rows) g h i =
            let k = steps xs q t g.good f o in
            let (a, b) = left_other r rows (row_entry xs (frame_row f)) (remaining xs f.next f.stage) i in
            done_by xs p s (r ∷ rows) q t g (ap (left_part (r ∷ rows)) k.more ∙ a) (ap (left_past (r ∷ rows)) k.more ∙ b ∙ sym k.more) (λ _. g.moved)

-- The library's search for the first row under an id.
pub row_first : (i : ℕ) (rows : List AttributeRow) → first_such (λ r. eqb r.id i) rows ≡ row_under i rows
row_first i [] = refl
row_first i (r ∷ rows) = rw (row_first i rows) refl
