-- What loads decide, from what forms decide.
use Rattle.std.proofs.Common.{◌≡◌, ℕ, min, Bool, true, false, ◌&&◌, leb, List, length, take, replicate, Ok, Err, Decides, sym, refl, ap, ◌∙◌, arith, rules}
use Rattle.std.specs.Str.{bytes_eq}
use Rattle.std.proofs.lemmas.List.{places, same_lists, take_at, length-replicate}
use Rattle.std.proofs.lemmas.Slice.Eq.{bytes_eq-Decides}
use Rattle.source.specs.Content.{source_limit}
use Rattle.source.specs.Outcome.{Outcome, ◌>>=◌, ◌>>◌, need}
use Rattle.source.specs.declared.refusals.Reason.TheVariants.{ShortWork, FormTooLong}
use Rattle.source.specs.declared.refusals.Refusal.{Refusal}
use Rattle.source.proofs.Outcomes.{err_not_ok, ok_same}
use Rattle.index.specs.declared.properties.PropertyRow.{PropertyRow}
use Rattle.stream.specs.Messages.{Message, read}
use Rattle.stream.specs.Writing.{written}
use Rattle.stream.proofs.Judging.{told}
use Rattle.message.specs.Sameness.{Same, SourceBytes}
use Rattle.message.proofs.Forms.{forms_decide}
use Rattle.draft.specs.Drafts.{Memory, memory, enough, fitted, loaded, area_after, size_after, blank_row}
use Rattle.draft.specs.Promise.{LoadsDecide, compared, next_load, Tells}

-- A load that is accepted writes the form of what the source carries.
loaded_got : (w : Memory) (room : ℕ) (xs f : List ℕ) → loaded w room xs ≡ Ok f → (m : Message) × (read xs ≡ Ok m) × (f ≡ written m)
unfolding loaded fitted ◌>>=◌ ◌>>◌
loaded_got w room xs f e = by_memory (enough w room) e
  where
    by_fit : (m : Message) (b : Bool) → read xs ≡ Ok m → (need b FormTooLong 0 >> Ok (written m)) ≡ Ok f → (m : Message) × (read xs ≡ Ok m) × (f ≡ written m)
    by_fit m true r e = (m, r, sym (ok_same (written m) f e))
    by_fit m false r e = absurd (err_not_ok e)

    by_read : (o : Outcome Message) → read xs ≡ o → (o >>= fitted room) ≡ Ok f → (m : Message) × (read xs ≡ Ok m) × (f ≡ written m)
    by_read (Ok m) r e = by_fit m (leb (length (written m)) room && leb (length (written m)) source_limit) r e
    by_read (Err x) r e = absurd (err_not_ok e)

    by_memory : (b : Bool) → (need b ShortWork 0 >> (read xs >>= fitted room)) ≡ Ok f → (m : Message) × (read xs ≡ Ok m) × (f ≡ written m)
    by_memory true e = by_read (read xs) refl e
    by_memory false e = absurd (err_not_ok e)

pub loads_decide : LoadsDecide
loads_decide v w a b xs ys f g sx sy e d =
    let (m, r, p) = loaded_got v a xs f e in
    let (n, s, q) = loaded_got w b ys g d in
    let k = forms_decide m n (xs, sx, r) (ys, sy, s) in
    (m, n, r, s, p, q, (λ t. k.0 (sym p ∙ t ∙ q), λ t. p ∙ k.1 t ∙ sym q))

take_min : (n : ℕ) (xs : List ℕ) → take (min n (length xs)) xs ≡ take n xs
take_min n xs = same_lists _ _ (search (rules, places)) (λ k d l. grind (arith, places))

pub taken : (n m : ℕ) (xs : List ℕ) → m ≡ min n (length xs) → take m xs ≡ take n xs
taken n m xs e = ap (λ (k : ℕ). take k xs) e ∙ take_min n xs

-- The form in an area after an accepted call.
pub form_after : (o : Outcome (List ℕ)) (u : Unit {0}) (area was : List ℕ) (n m : ℕ) → Ok u ≡ told o → area ≡ area_after o was → n ≡ size_after o m
    → o ≡ Ok (take n area)
form_after (Ok f) u area was n m e a s = rw (a, s) (ap Ok (sym (take_at f _ (length f) refl)))
form_after (Err x) u area was n m e a s = absurd (err_not_ok (sym e))

module _ (v w : Memory) (a b : ℕ) (xs ys f g : List ℕ) where
  pub tells : SourceBytes xs → SourceBytes ys → loaded v a xs ≡ Ok f → loaded w b ys ≡ Ok g → Tells xs ys (Ok (bytes_eq f g))
  tells sx sy e d m n r s =
      let (m', n', r', s', p, q, k) = loads_decide v w a b xs ys f g sx sy e d in
      let i = ok_same m' m (sym r' ∙ r) in
      let j = ok_same n' n (sym s' ∙ s) in
      let t = bytes_eq-Decides f g in
      let d' : Decides (bytes_eq f g) (Same m' n') = (λ h. k.0 (t.0 h), λ h. t.1 (k.1 h)) in
      rw (i, j) at d'

  pub compared_ok : loaded v a xs ≡ Ok f → loaded w b ys ≡ Ok g → Ok (bytes_eq f g) ≡ compared (loaded v a xs) (loaded w b ys)
  unfolding compared
  compared_ok e d = rw (e, d)

-- The refusal of the first load, or of the second.
pub compared_first : (o q : Outcome (List ℕ)) (r : Refusal) → Err r ≡ told o → Err r ≡ compared o q
unfolding compared
compared_first (Ok f) q r e = absurd (err_not_ok e)
compared_first (Err x) q r e = cc

pub compared_second : (o q : Outcome (List ℕ)) (u : Unit {0}) (r : Refusal) → Ok u ≡ told o → Err r ≡ told q → Err r ≡ compared o q
unfolding compared
compared_second (Ok f) (Ok g) u r e d = absurd (err_not_ok d)
compared_second (Ok f) (Err x) u r e d = cc
compared_second (Err x) q u r e d = absurd (err_not_ok (sym e))

-- Cleared work memory is as much as before.
pub as_much : (bytes : List ℕ) (rows : List PropertyRow) → memory (replicate (length bytes) 0) (replicate (length rows) blank_row) ≡ memory bytes rows
as_much bytes rows = rw (length-replicate {A = ℕ} (length bytes) 0, length-replicate (length rows) blank_row)

-- The second draft where its load is not begun, and where it is.
module _ (o q : Outcome (List ℕ)) where
  pub area_unbegun : (r : Refusal) (area : List ℕ) → Err r ≡ told o → area ≡ area_after (next_load o q) area
  area_unbegun r area e = by_first o e
    where
      by_first : (p : Outcome (List ℕ)) → Err r ≡ told p → area ≡ area_after (next_load p q) area
      by_first (Ok f) e = absurd (err_not_ok e)
      by_first (Err x) e = refl

  pub size_unbegun : (r : Refusal) (n : ℕ) → Err r ≡ told o → n ≡ size_after (next_load o q) n
  size_unbegun r n e = by_first o e
    where
      by_first : (p : Outcome (List ℕ)) → Err r ≡ told p → n ≡ size_after (next_load p q) n
      by_first (Ok f) e = absurd (err_not_ok e)
      by_first (Err x) e = refl

  begun_is : (u : Unit {0}) (p : Outcome (List ℕ)) → Ok u ≡ told p → q ≡ next_load p q
  begun_is u (Ok f) e = refl
  begun_is u (Err x) e = absurd (err_not_ok (sym e))

  pub area_begun : (u : Unit {0}) (area was : List ℕ) → Ok u ≡ told o → area ≡ area_after q was → area ≡ area_after (next_load o q) was
  area_begun u area was e a = a ∙ ap (λ p. area_after p was) (begun_is u o e)

  pub size_begun : (u : Unit {0}) (n was : ℕ) → Ok u ≡ told o → n ≡ size_after q was → n ≡ size_after (next_load o q) was
  size_begun u n was e a = a ∙ ap (λ p. size_after p was) (begun_is u o e)

-- Memory that is cleared twice.
pub cleared_twice : {X : Type 0} (xs ys zs : List X) (x : X) → ys ≡ replicate (length xs) x → zs ≡ replicate (length ys) x → zs ≡ replicate (length xs) x
cleared_twice xs ys zs x e f = f ∙ ap (λ n. replicate n x) (ap length e ∙ length-replicate (length xs) x)
