-- A load, from what restating gives.
use Rattle.std.proofs.Common.{◌≡◌, ℕ, ◌<◌, ◌≤◌, Bool, true, false, ◌&&◌, leb, ◌⊎◌, List, ◌++◌, length, take, IfOk, Ok, Err, Result, sym, refl, ap, ◌∙◌, inl, inr, arith}
use Rattle.std.proofs.lemmas.List.{take-append-le}
use Rattle.std.proofs.lemmas.Bool.{le-leb, lt-leb, and_from, and_left, and_right, and_parts, leb-true}
use Rattle.source.specs.Content.{source_limit}
use Rattle.source.specs.Outcome.{Outcome, ◌>>=◌, ◌>>◌, need, over, refused}
use Rattle.source.specs.declared.refusals.Reason.TheVariants.{ShortWork, FormTooLong}
use Rattle.source.specs.declared.refusals.Refusal.{Refusal}
use Rattle.source.proofs.Outcomes.{err_not_ok, need_got, ok_same, over_over}
use Rattle.property.specs.Lists.{list_limit}
use Rattle.stream.specs.Messages.{Message, read}
use Rattle.stream.specs.Writing.{written}
use Rattle.form.specs.Restating as form
use Rattle.form.specs.Restating.{restated, Restates}
use Rattle.draft.specs.Drafts.{Memory, enough, fitted, blank, begun, loaded, Front}

pub is_enough : (w : Memory) (room : ℕ) → room ≤ w.bytes → list_limit ≤ w.rows → enough w room ≡ true
is_enough w room h k = and_from (leb room w.bytes) (leb list_limit w.rows) (le-leb room w.bytes h) (le-leb list_limit w.rows k)

pub not_enough : (w : Memory) (room : ℕ) → (w.bytes < room) ⊎ ((room ≤ w.bytes) × (w.rows < list_limit)) → enough w room ≡ false
not_enough w room (inl h) = and_left (leb room w.bytes) (leb list_limit w.rows) (lt-leb room w.bytes h)
not_enough w room (inr h) = and_right (leb room w.bytes) (leb list_limit w.rows) (lt-leb list_limit w.rows h.1)

-- What the check of work memory tells.
pub enough_got : (w : Memory) (room : ℕ) (u : Unit {0}) → Ok u ≡ need (enough w room) ShortWork 0 → (room ≤ w.bytes) × (list_limit ≤ w.rows)
enough_got w room u e =
    let t = and_parts _ _ (need_got (enough w room) ShortWork 0 u e) in (leb-true room w.bytes t.0, leb-true list_limit w.rows t.1)

pub enough_lost : (w : Memory) (room : ℕ) (r : Refusal) → Err r ≡ need (enough w room) ShortWork 0 → (enough w room ≡ false) × (r ≡ record { reason = ShortWork; place = 0 })
enough_lost w room r e = by_test (enough w room) e
  where
    by_test : (b : Bool) → Err r ≡ need b ShortWork 0 → (b ≡ false) × (r ≡ record { reason = ShortWork; place = 0 })
    by_test true e = absurd (err_not_ok e)
    by_test false e = (refl, cc)

module _ (w : Memory) (room : ℕ) (xs : List ℕ) where
  pub short : enough w room ≡ false → loaded w room xs ≡ refused ShortWork 0
  unfolding loaded
  short e = rw e

  loaded_is : enough w room ≡ true → loaded w room xs ≡ (read xs >>= fitted room)
  unfolding loaded ◌>>=◌
  loaded_is e = rw e

  restated_is : list_limit ≤ w.rows → restated xs w.rows room ≡ (read xs >>= (λ m. over length (fitted room m)))
  unfolding restated form.fitted fitted ◌>>=◌
  restated_is h = rw (le-leb list_limit w.rows h) (same (read xs))
    where
      by_test : (b : Bool) (m : Message) → (need b FormTooLong 0 >> Ok (length (written m))) ≡ over length (need b FormTooLong 0 >> Ok (written m))
      by_test true m = refl
      by_test false m = refl

      same : (o : Outcome Message)
          → (o >>= (λ m. need (leb (length (written m)) room && leb (length (written m)) source_limit) FormTooLong 0 >> Ok (length (written m))))
          ≡ (o >>= (λ m. over length (need (leb (length (written m)) room && leb (length (written m)) source_limit) FormTooLong 0 >> Ok (written m))))
      same (Ok m) = by_test (leb (length (written m)) room && leb (length (written m)) source_limit) m
      same (Err e) = refl

  pub outcome : room ≤ w.bytes → list_limit ≤ w.rows → restated xs w.rows room ≡ over length (loaded w room xs)
  unfolding ◌>>=◌
  outcome h k =
      let e = loaded_is (is_enough w room h k) in
      restated_is k ∙ out (read xs) ∙ ap (over length) (sym e)
    where
      out : (o : Outcome Message) → (o >>= (λ m. over length (fitted room m))) ≡ over length (o >>= fitted room)
      out (Ok m) = refl
      out (Err e) = refl

  pub front : (out rest : List ℕ) → room ≤ w.bytes → list_limit ≤ w.rows → length out ≡ room
      → Restates xs out (restated xs w.rows room) → Front (loaded w room xs) (out ++ rest)
  unfolding ◌>>=◌ ◌>>◌ fitted
  front out rest h k l f =
      rw (loaded_is (is_enough w room h k)) (by_read (read xs) refl (rw (restated_is k) at f))
    where
      by_test : (m : Message) (b : Bool) → (leb (length (written m)) room && leb (length (written m)) source_limit) ≡ b → read xs ≡ Ok m
          → Restates xs out (over length (need b FormTooLong 0 >> Ok (written m))) → Front (need b FormTooLong 0 >> Ok (written m)) (out ++ rest)
      by_test m true t e f =
          let n : length (written m) ≤ length out = omega (arith, leb-true (length (written m)) room (and_parts _ _ t).0) in
          take-append-le (length (written m)) out rest n ∙ f.2 ∙ ap written (ok_same f.0 m (sym f.1 ∙ e))
      by_test m false t e f = tt

      by_read : (o : Outcome Message) → read xs ≡ o → Restates xs out (o >>= (λ m. over length (fitted room m))) → Front (o >>= fitted room) (out ++ rest)
      by_read (Ok m) e f = by_test m (leb (length (written m)) room && leb (length (written m)) source_limit) refl e f
      by_read (Err r) e f = tt

-- What is written for a message that may be refused before.
module _ (w : Memory) (room : ℕ) where
  unfoldable pub written_by : Outcome Message → Outcome (List ℕ)
  unfolding ◌>>=◌ ◌>>◌
  written_by o = do
    need (enough w room) ShortWork 0
    m ← o
    fitted room m

  -- A form that was written fits the room, and the work bytes.
  fits : (o : Outcome Message) (n : ℕ) → Ok n ≡ over length (written_by o) → (n ≤ room) × (room ≤ w.bytes)
  unfolding written_by fitted ◌>>=◌ ◌>>◌
  fits o n e = by_memory (enough w room) refl e
    where
      by_fit : (m : Message) (b : Bool) → (leb (length (written m)) room && leb (length (written m)) source_limit) ≡ b
          → Ok n ≡ over length (need b FormTooLong 0 >> Ok (written m)) → n ≤ room
      by_fit m true t e =
          let q : n ≡ length (written m) = cc in omega (arith, leb-true (length (written m)) room (and_parts _ _ t).0)
      by_fit m false t e = absurd (err_not_ok (sym e))

      by_read : (o : Outcome Message) → Ok n ≡ over length (o >>= fitted room) → n ≤ room
      by_read (Ok m) e = by_fit m (leb (length (written m)) room && leb (length (written m)) source_limit) refl e
      by_read (Err r) e = absurd (err_not_ok (sym e))

      by_memory : (b : Bool) → enough w room ≡ b → Ok n ≡ over length (need b ShortWork 0 >> (o >>= fitted room)) → (n ≤ room) × (room ≤ w.bytes)
      by_memory true t e = (by_read o e, leb-true room w.bytes (and_parts _ _ t).0)
      by_memory false t e = absurd (err_not_ok (sym e))

  pub made_fits : (o : Outcome Message) (size : ℕ) (r : Result ℕ Refusal) → r ≡ over length (written_by o) → w.bytes ≤ size
      → IfOk r (λ n. (n ≤ room) × (n ≤ size))
  made_fits o size (Ok n) e h = let f = fits o n e in (f.0, omega (arith, f.0, f.1))
  made_fits o size (Err x) e h = tt

  pub load_fits : (xs : List ℕ) (size : ℕ) (r : Result ℕ Refusal) → r ≡ over length (loaded w room xs) → w.bytes ≤ size → IfOk r (λ n. (n ≤ room) × (n ≤ size))
  unfolding loaded written_by
  load_fits xs size r e h = made_fits (read xs) size r e h

  pub begin_fits : (p size : ℕ) (r : Result ℕ Refusal) → r ≡ over length (begun w room p) → w.bytes ≤ size → IfOk r (λ n. (n ≤ room) × (n ≤ size))
  unfolding begun written_by ◌>>=◌
  begin_fits p size r e h = made_fits (Ok (blank p)) size r e h

-- What stands at the front is what was written.
pub front_is : (o : Outcome (List ℕ)) (r : Result ℕ Refusal) (bytes : List ℕ) → r ≡ over length o → Front o bytes → over (λ n. take n bytes) r ≡ o
front_is (Ok form) r bytes e f = rw e (ap Ok f)
front_is (Err x) r bytes e f = rw e

pub told_is : (o : Outcome (List ℕ)) (r : Outcome ℕ) (q : Outcome (Unit {0})) → q ≡ over (λ _. tt) r → r ≡ over length o → q ≡ over (λ _. tt) o
told_is o r q e f = e ∙ ap (over (λ _. tt)) f ∙ over_over length (λ _. tt) o
