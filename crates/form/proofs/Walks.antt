-- A readable stream, frame by frame.
use Rattle.std.proofs.Common.{◌≡◌, ℕ, suc, ◌+◌, Bool, true, false, cond, ◌&&◌, eqb, List, [], ◌∷◌, length, Some, None, Ok, Err, sym, refl, ap, ◌∙◌, arith}
use Rattle.std.proofs.lemmas.Bool.{eqb-true, and_parts}
use Rattle.source.specs.Bytes.{part, val}
use Rattle.source.specs.Outcome.{Outcome, ◌>>=◌, over}
use Rattle.source.proofs.Outcomes.{err_not_ok}
use Rattle.frame.specs.Stages.{may_end}
use Rattle.frame.specs.Frames.{frame_at, next_frame}
use Rattle.frame.specs.declared.Frame.{Frame}
use Rattle.frame.specs.declared.stages.Stage.{Stage}
use Rattle.frame.proofs.Placing.{Placed, frame_placed}
use Rattle.frame.proofs.Standing.{Stands, frame_stands}
use Rattle.contents.specs.Writing.{known}
use Rattle.stream.specs.Reading.{Meant, meant_at, Entry, entries_from, entries_at}
use Rattle.stream.proofs.Judging.{told, any_fuel}
use Rattle.form.proofs.Sizes.{frame_size}
use Rattle.form.specs.Targets.{or_none, remaining, Readable, row_meant, or_version, row_entry, Standing, frame_row}

module _ (xs : List ℕ) (p : ℕ) (s : Stage) where
  -- A frame that comes next, and the end.
  next_some : (f : Frame) → known (next_frame xs p s) ≡ Some f → (Ok (Some f) ≡ next_frame xs p s) × (Ok f ≡ frame_at xs p s)
  unfolding next_frame
  next_some f e = by_test (eqb p (length xs) && may_end s) (frame_at xs p s) e
    where
      by_test : (b : Bool) (o : Outcome Frame) → known (cond b (Ok None) (over Some o)) ≡ Some f → (Ok (Some f) ≡ cond b (Ok None) (over Some o)) × (Ok f ≡ o)
      by_test true o e = let z : ◌≡◌ {A = ℕ} 0 1 = cc in absurd (omega arith)
      by_test false (Ok g) e = (ap Ok (sym e), cc)
      by_test false (Err r) e = let z : ◌≡◌ {A = ℕ} 0 1 = cc in absurd (omega arith)

  next_none : known (next_frame xs p s) ≡ None → told (next_frame xs p s) ≡ Ok tt → (Ok None ≡ next_frame xs p s) × (p ≡ length xs) × (may_end s ≡ true)
  unfolding next_frame
  next_none e r = by_test (eqb p (length xs) && may_end s) refl (frame_at xs p s) e r
    where
      by_test : (b : Bool) → (eqb p (length xs) && may_end s) ≡ b → (o : Outcome Frame) → known (cond b (Ok None) (over Some o)) ≡ None
          → told (cond b (Ok None) (over Some o)) ≡ Ok tt → (Ok None ≡ cond b (Ok None) (over Some o)) × (p ≡ length xs) × (may_end s ≡ true)
      by_test true t o e r = let q = and_parts (eqb p (length xs)) (may_end s) t in (refl, eqb-true p (length xs) q.0, q.1)
      by_test false t (Ok g) e r = let z : ◌≡◌ {A = ℕ} 0 1 = cc in absurd (omega arith)
      by_test false t (Err q) e r = absurd (err_not_ok r)

-- One frame and the frames behind it.
pub record Stepped (xs : List ℕ) (p : ℕ) (s : Stage) (f : Frame) : Type 0 where
  pub stands : Stands xs p f
  pub sized : f.size ≡ val (part xs (p + 5) 4)
  pub placed : Placed p s f
  pub row : Standing xs (frame_row f)
  pub after : Readable xs f.next f.stage
  pub more : remaining xs p s ≡ row_entry xs (frame_row f) ∷ remaining xs f.next f.stage

both : (i : ℕ) (o : Outcome Meant) (q : Outcome (List Entry)) → told (o >>= (λ m. q >>= (λ es. Ok (record { id = i; meant = m } ∷ es)))) ≡ Ok tt
    → (o ≡ Ok (or_version o)) × (told q ≡ Ok tt) × (or_none (o >>= (λ m. q >>= (λ es. Ok (record { id = i; meant = m } ∷ es)))) ≡ record { id = i; meant = or_version o } ∷ or_none q)
unfolding ◌>>=◌
both i (Ok m) (Ok es) e = (refl, refl, refl)
both i (Ok m) (Err r) e = absurd (err_not_ok e)
both i (Err r) q e = absurd (err_not_ok e)

whether : {A B : Type 0} (o : Outcome A) (k : A → Outcome B) → told (o >>= k) ≡ Ok tt → told o ≡ Ok tt
unfolding ◌>>=◌
whether (Ok a) k e = refl
whether (Err r) k e = absurd (err_not_ok e)

module _ (xs : List ℕ) (p : ℕ) (s : Stage) (good : Readable xs p s) where
  one_more : entries_at (length xs) xs p s ≡ entries_at (suc (length xs)) xs p s
  one_more = let h = good.begun in any_fuel xs (length xs) (suc (length xs)) p s (omega arith) (omega arith)

  opened : told (next_frame xs p s >>= entries_from (λ f. entries_at (length xs) xs f.next f.stage) xs) ≡ Ok tt
  unfolding entries_at
  opened = ap told (sym one_more) ∙ good.reads

  pub steps : (f : Frame) → known (next_frame xs p s) ≡ Some f → Stepped xs p s f
  unfolding entries_at ◌>>=◌ entries_from remaining row_entry row_meant
  steps f e =
      let (n, k) = next_some xs p s f e in
      let t = frame_stands xs p s f k in
      let u = frame_placed xs p s f k in
      let same : meant_at xs f ≡ row_meant xs (frame_row f) = rw u.known in
      let (a, b, d) = both f.attribute.id (meant_at xs f) (entries_at (length xs) xs f.next f.stage) (rw (← n) at opened) in
      let h = t.next in
      record {
        stands = t;
        sized = frame_size xs p s f k;
        placed = u;
        row = record { within = omega (arith, t.within, t.place); reads = rw (← same) a };
        after = record { begun = omega arith; reads = b };
        more = ap or_none one_more ∙ (rw (← n) (rw (← same) d));
      }

  pub ends : known (next_frame xs p s) ≡ None → (remaining xs p s ≡ []) × (p ≡ length xs) × (may_end s ≡ true)
  unfolding entries_at ◌>>=◌ entries_from remaining
  ends e =
      let (n, l, m) = next_none xs p s e (whether (next_frame xs p s) _ opened) in
      (ap or_none one_more ∙ rw (← n), l, m)
