-- What restating answers, at each of its ends.
use Rattle.std.proofs.Common.{◌≡◌, ℕ, ◌<◌, ◌≤◌, min, true, false, ◌&&◌, leb, List, length, take, ◌++◌, Option, Some, None, Ok, Err, sym, refl, ap, ◌∙◌, arith}
use Rattle.std.specs.Option.{ok_or}
use Rattle.std.proofs.lemmas.List.{length-take, take-append-le}
use Rattle.std.proofs.lemmas.Bool.{le-leb, lt-leb}
use Rattle.std.proofs.lemmas.Bool.Decides.{nat_tests}
use Rattle.source.specs.Content.{source_limit}
use Rattle.source.specs.Outcome.{Outcome, ◌>>=◌, over, refused}
use Rattle.source.specs.declared.refusals.Reason.TheVariants.{ShortWork, FormTooLong}
use Rattle.source.specs.declared.refusals.Refusal.{Refusal}
use Rattle.source.proofs.Outcomes.{err_not_ok, over_lost}
use Rattle.frame.specs.Frames.{header}
use Rattle.frame.specs.declared.stages.Stage.TheVariants as stage
use Rattle.property.specs.Lists.{list_limit}
use Rattle.stream.specs.Reading.{Entry, entries_at, entries_of}
use Rattle.stream.specs.Messages.{Message, message_of, read}
use Rattle.stream.specs.Writing.{written}
use Rattle.stream.proofs.Judging.{told}
use Rattle.form.specs.Targets.{or_none, remaining, Readable}
use Rattle.form.specs.Restating.{fitted, restated, Restates}
use Rattle.form.specs.Wholes.{Fills}

-- A stream that was judged to its end.
module _ (xs : List ℕ) where
  judged_by : (k : Outcome ℕ) (o : Outcome (List Entry)) (u : Unit {0}) → Ok u ≡ told (k >>= (λ _. o)) → (told o ≡ Ok tt) × ((k >>= (λ _. o)) ≡ Ok (or_none o))
  unfolding ◌>>=◌
  judged_by (Ok k) (Ok es) u e = (refl, refl)
  judged_by (Ok k) (Err r) u e = absurd (err_not_ok (sym e))
  judged_by (Err r) o u e = absurd (err_not_ok (sym e))

  pub judged_good : (u : Unit {0}) → Ok u ≡ told (entries_of xs) → Readable xs 6 stage.Version
  unfolding entries_of
  judged_good u e = record { begun = omega arith; reads = (judged_by (header xs) (entries_at (length xs) xs 6 stage.Version) u e).0 }

  pub judged_read : (u : Unit {0}) → Ok u ≡ told (entries_of xs) → read xs ≡ Ok (message_of (remaining xs 6 stage.Version))
  unfolding read entries_of remaining
  judged_read u e = ap (over message_of) (judged_by (header xs) (entries_at (length xs) xs 6 stage.Version) u e).1

  -- The ends.
  module _ (room size : ℕ) where
    pub rows_short : room < list_limit → refused ShortWork 0 ≡ restated xs room size
    unfolding restated
    rows_short h = rw (lt-leb list_limit room h)

    pub stream_refused : (r : Refusal) → list_limit ≤ room → Err r ≡ told (entries_of xs) → Err r ≡ restated xs room size
    unfolding restated read
    stream_refused r h e = rw (le-leb list_limit room h, ← over_lost _ (entries_of xs) r e)

    restated_by : (m : Message) → list_limit ≤ room → read xs ≡ Ok m → fitted size m ≡ restated xs room size
    unfolding restated
    restated_by m h e = rw (le-leb list_limit room h, e)

    fits_not : (n : ℕ) → min size source_limit < n → (leb n size && leb n source_limit) ≡ false
    fits_not n h = grind (arith, nat_tests)

    fits_both : (n : ℕ) → n ≤ min size source_limit → (leb n size && leb n source_limit) ≡ true
    fits_both n h = grind (arith, nat_tests)

    pub form_long : (m : Message) → list_limit ≤ room → read xs ≡ Ok m → min size source_limit < length (written m) → refused FormTooLong 0 ≡ restated xs room size
    unfolding fitted
    form_long m h e l = rw (← restated_by m h e, fits_not (length (written m)) l)

    pub form_fits : (m : Message) → list_limit ≤ room → read xs ≡ Ok m → length (written m) ≤ min size source_limit → Ok (length (written m)) ≡ restated xs room size
    unfolding fitted
    form_fits m h e l = rw (← restated_by m h e, fits_both (length (written m)) l)

-- What was written from the front on.
pub wrote_some : (b w a : List ℕ) (n : ℕ) → Fills b w a (Some n) → (n ≡ length w) × (n ≤ length b) × (take n a ≡ w)
wrote_some b w a n p =
    let (e, t) = p.told in
    let l : length (take n a) ≡ length w = ap length t in
    (omega arith, omega (arith, length-take n a, p.kept), t)

pub wrote_none : (b w a : List ℕ) → Fills b w a None → length b < length w
wrote_none b w a p = let t = p.told in omega arith

-- What restating answers and leaves, with what stands behind the front that was lent.
module _ (xs : List ℕ) (m : Message) (e : read xs ≡ Ok m) (b a : List ℕ) where
  pub fill_answers : (room size : ℕ) → list_limit ≤ room → length b ≡ min size source_limit → (o : Option ℕ) → Fills b (written m) a o
      → ok_or o (record { reason = FormTooLong; place = 0 }) ≡ restated xs room size
  fill_answers room size h l (Some n) p =
      let (k, i, _) = wrote_some b (written m) a n p in ap Ok k ∙ form_fits xs room size m h e (omega (arith, k, i, l))
  fill_answers room size h l None p = form_long xs room size m h e (omega (arith, wrote_none b (written m) a p, l))

  pub fill_restates : (o : Option ℕ) → Fills b (written m) a o → (behind : List ℕ) (r : Refusal) → Restates xs (a ++ behind) (ok_or o r)
  fill_restates (Some n) p behind r =
      let (k, i, t) = wrote_some b (written m) a n p in (m, e, take-append-le n a behind (omega (arith, i, p.kept)) ∙ t)
  fill_restates None p behind r = tt
