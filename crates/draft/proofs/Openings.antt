-- Whether a draft is a written form, from what restating it gives.
use Rattle.std.proofs.Common.{◌≡◌, ℕ, ◌<◌, ◌≤◌, Bool, true, false, ◌&&◌, leb, ◌⊎◌, List, length, take, None, Ok, Err, sym, refl, ap, ◌∙◌, inl, inr, arith}
use Rattle.std.specs.Str.{bytes_eq}
use Rattle.std.proofs.lemmas.Slice.Eq.{bytes_eq-Decides}
use Rattle.std.proofs.lemmas.Bool.{le-leb, lt-leb, and_from, and_left, and_right, and_parts, leb-true, both_ways}
use Rattle.source.specs.Content.{source_limit}
use Rattle.source.specs.Outcome.{Outcome, ◌>>=◌, ◌>>◌, need, given, refused}
use Rattle.source.specs.declared.refusals.Reason.TheVariants.{ShortWork, NotWritten, FormTooLong}
use Rattle.source.specs.declared.refusals.Refusal.{Refusal}
use Rattle.source.proofs.Outcomes.{err_not_ok}
use Rattle.contents.specs.Options.{where_true}
use Rattle.property.specs.Fields.{done}
use Rattle.property.specs.Lists.{list_limit}
use Rattle.stream.specs.Messages.{Message, read}
use Rattle.stream.specs.Writing.{written}
use Rattle.form.specs.Restating.{fitted, restated, Restates}
use Rattle.draft.specs.Drafts.{Memory, enough}
use Rattle.draft.specs.Calls.{State, form, if_written, opened}

-- Restated in as many rows as a list has properties.
restated_as : (xs : List ℕ) (rows size : ℕ) → list_limit ≤ rows → restated xs rows size ≡ (read xs >>= fitted size)
unfolding restated ◌>>=◌ ◌>>◌
restated_as xs rows size h = rw (le-leb list_limit rows h)

same_true : (xs ys : List ℕ) → bytes_eq xs ys ≡ true → xs ≡ ys
same_true xs ys t = (bytes_eq-Decides xs ys).0 t

pub restated_size : (xs : List ℕ) (rows size n : ℕ) → list_limit ≤ rows → Ok n ≡ restated xs rows size → n ≤ size
unfolding ◌>>=◌ ◌>>◌ fitted
restated_size xs rows size n h e = by_read (read xs) (e ∙ restated_as xs rows size h)
  where
    by_fit : (k : ℕ) (b : Bool) → (leb k size && leb k source_limit) ≡ b → Ok n ≡ (need b FormTooLong 0 >> Ok k) → n ≤ size
    by_fit k true t e = let q : n ≡ k = cc in omega (arith, leb-true k size (and_parts _ _ t).0)
    by_fit k false t e = absurd (err_not_ok (sym e))

    by_read : (o : Outcome Message) → Ok n ≡ (o >>= fitted size) → n ≤ size
    by_read (Ok m) e = by_fit (length (written m)) _ refl e
    by_read (Err r) e = absurd (err_not_ok (sym e))

-- Where restating into as many bytes is refused, the bytes are not a written form.
pub restated_not : (xs : List ℕ) (rows : ℕ) (r : Refusal) → list_limit ≤ rows → length xs ≤ source_limit → Err r ≡ restated xs rows (length xs)
    → if_written xs (read xs) ≡ None
unfolding ◌>>=◌ ◌>>◌ fitted
restated_not xs rows r h short e = by_read (read xs) (e ∙ restated_as xs rows (length xs) h)
  where
    by_fit : (m : Message) (b : Bool) → (leb (length (written m)) (length xs) && leb (length (written m)) source_limit) ≡ b
        → Err r ≡ (need b FormTooLong 0 >> Ok (length (written m))) → (t : Bool) → bytes_eq (written m) xs ≡ t → where_true t m ≡ None
    by_fit m true f e t s = absurd (err_not_ok e)
    by_fit m false f e false s = refl
    by_fit m false f e true s =
        let l : length (written m) ≡ length xs = ap length (same_true (written m) xs s) in
        absurd (both_ways _ f (and_from _ _ (le-leb (length (written m)) (length xs) (omega arith)) (le-leb (length (written m)) source_limit (omega arith))))

    by_read : (o : Outcome Message) → Err r ≡ (o >>= fitted (length xs)) → if_written xs o ≡ None
    by_read (Ok m) e = by_fit m _ refl e _ refl
    by_read (Err q) e = refl

-- Where it is not, whether they are is told by comparing.
pub compared_written : (xs out : List ℕ) (n : ℕ) (b : Bool) → Restates xs out (Ok n) → b ≡ bytes_eq (take n out) xs
    → done (given (if_written xs (read xs)) NotWritten 0) ≡ need b NotWritten 0
compared_written xs out n b (m, r, t) e = rw (r, e, t) (by_test (bytes_eq (written m) xs))
  where
    by_test : (b : Bool) → done (given (where_true b m) NotWritten 0) ≡ need b NotWritten 0
    by_test true = refl
    by_test false = refl

-- The ends of opening.
module _ (w : Memory) (d : State) where
  pub open_short : enough w (length d.area) ≡ false → refused ShortWork 0 ≡ done (opened w d)
  unfolding opened
  open_short e = rw e

  outside : (length d.area < d.size) ⊎ ((d.size ≤ length d.area) × (source_limit < d.size)) → (leb d.size (length d.area) && leb d.size source_limit) ≡ false
  outside (inl h) = and_left _ (leb d.size source_limit) (lt-leb d.size (length d.area) h)
  outside (inr h) = and_right (leb d.size (length d.area)) _ (lt-leb d.size source_limit h.1)

  pub open_outside : enough w (length d.area) ≡ true → (length d.area < d.size) ⊎ ((d.size ≤ length d.area) × (source_limit < d.size))
      → refused NotWritten 0 ≡ done (opened w d)
  unfolding opened ◌>>◌
  open_outside e h = rw (e, outside h)

  pub open_judged : enough w (length d.area) ≡ true → d.size ≤ length d.area → d.size ≤ source_limit
      → done (given (if_written (form d) (read (form d))) NotWritten 0) ≡ done (opened w d)
  unfolding opened ◌>>◌
  open_judged e h k = rw (e, le-leb d.size (length d.area) h, le-leb d.size source_limit k)
