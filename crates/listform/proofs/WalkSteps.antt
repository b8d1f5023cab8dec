-- Walks: one step, their end, and that readings in a row are one.
use Rattle.std.proofs.Common.{◌≡◌, ℕ, zero, suc, ◌<◌, ◌≤◌, List, [], ◌∷◌, ◌++◌, length, Ok, sym, refl, ap, ◌∙◌, arith}
use Rattle.std.specs.List.{flat_map}
use Rattle.source.specs.Outcome.{Outcome, ◌>>=◌}
use Rattle.source.proofs.Outcomes.{ok_same, bind_got}
use Rattle.property.specs.Fields.{At, at, repeated}
use Rattle.listform.specs.Walks.{walked, Within}

pub within_now : (last : ℕ) (next : ℕ → ℕ) (n p : ℕ) → 0 < n → Within last next n p → next p ≤ last
unfolding Within
within_now last next zero p h w = absurd (omega arith)
within_now last next (suc n) p h w = w.0

pub within_more : (last : ℕ) (next : ℕ → ℕ) (n m p q : ℕ) → n ≡ suc m → q ≡ next p → Within last next n p → Within last next m q
unfolding Within
within_more last next n m p q e f w = rw f (rw e at w).1

pub walked_more : (one : ℕ → List ℕ) (next : ℕ → ℕ) (n m p q : ℕ) → n ≡ suc m → q ≡ next p → walked one next n p ≡ one p ++ walked one next m q
unfolding walked
walked_more one next n m p q e f = rw (e, f)

pub walked_none : (one : ℕ → List ℕ) (next : ℕ → ℕ) (n p : ℕ) → n ≡ 0 → walked one next n p ≡ []
unfolding walked
walked_none one next n p e = rw e

module _ {A : Type 0} (read : ℕ → Outcome (At A)) where
  -- The first of several readings, and the others.
  pub repeated_first : (n m p : ℕ) (a : At (List A)) → n ≡ suc m → Ok a ≡ repeated read n p
      → (b : At A) × (rest : At (List A)) × (Ok b ≡ read p) × (Ok rest ≡ repeated read m b.next) × (a ≡ at (b.what ∷ rest.what) rest.next)
  unfolding repeated ◌>>=◌
  repeated_first n m p a e h =
      let more : At A → Outcome (At (List A)) = λ b. repeated read m b.next >>= (λ rest. Ok (at (b.what ∷ rest.what) rest.next)) in
      let h' : Ok a ≡ (read p >>= more) = rw e at h in
      let (b, f, g) = bind_got (read p) more a h' in
      let (rest, k, last) = bind_got (repeated read m b.next) (λ rest. Ok (at (b.what ∷ rest.what) rest.next)) a g in
      (b, rest, f, k, ok_same _ _ last)

  pub repeated_nothing : (n p : ℕ) (a : At (List A)) → n ≡ 0 → Ok a ≡ repeated read n p → a ≡ at [] p
  unfolding repeated
  repeated_nothing n p a e h = ok_same _ _ (rw e at h)

  pub repeated_length : (n p : ℕ) (a : At (List A)) → Ok a ≡ repeated read n p → length a.what ≡ n
  repeated_length zero p a h = ap (λ (b : At (List A)). length b.what) (repeated_nothing 0 p a refl h)
  repeated_length (suc n) p a h =
      let (b, rest, f, k, e) = repeated_first (suc n) n p a refl h in
      ap (λ (b : At (List A)). length b.what) e ∙ ap suc (repeated_length n b.next rest k)

-- Where each reading gives what is written at its place, and goes on to the next place.
module _ {A : Type 0} (read : ℕ → Outcome (At A)) (write : A → List ℕ) (one : ℕ → List ℕ) (next : ℕ → ℕ) (last : ℕ)
    (step : (p : ℕ) (a : At A) → Ok a ≡ read p → (one p ≡ write a.what) × (next p ≡ a.next) × (next p ≤ last)) where
  pub walks : (n p : ℕ) (a : At (List A)) → Ok a ≡ repeated read n p → Within last next n p × (walked one next n p ≡ flat_map write a.what)
  unfolding Within walked
  walks zero p a h = (tt, sym (ap (λ (b : At (List A)). flat_map write b.what) (repeated_nothing read 0 p a refl h)))
  walks (suc n) p a h =
      let (b, rest, f, k, e) = repeated_first read (suc n) n p a refl h in
      let (same, on, fits) = step p b f in
      let (w, all) = walks n (next p) rest (rw on k) in
      ((fits, w), rw (e, same, all))
