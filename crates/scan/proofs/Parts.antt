-- What is asked of a part of a list, where the part lies within the list and where it does not.
use Rattle.std.proofs.Common.{◌≡◌, ℕ, ◌+◌, ◌<◌, ◌≤◌, List, length, Ok, Err, sym, ap, ◌∙◌, arith}
use Rattle.std.proofs.lemmas.Bool.{le-leb, lt-leb}
use Rattle.std.proofs.lemmas.Bool.Decides.{nat_tests}
use Rattle.source.specs.Bytes.{part}
use Rattle.source.specs.Outcome.{refused}
use Rattle.source.specs.declared.refusals.Reason.TheVariants.{SourceEnd}
use Rattle.source.specs.declared.refusals.Refusal.{Refusal}
use Rattle.scan.specs.Scans.{asked}

module _ {A : Type 0} (f : List ℕ → A) (xs : List ℕ) (place size : ℕ) where
  pub asked_within : place + size ≤ length xs → asked f xs place size ≡ Ok (f (part xs place size))
  unfolding asked
  asked_within h = rw (le-leb (place + size) (length xs) h)

  pub asked_past : length xs < place + size → asked f xs place size ≡ refused SourceEnd 0
  unfolding asked
  asked_past h = rw (lt-leb (place + size) (length xs) h)

  pub asked_got : (a : A) → Ok a ≡ asked f xs place size → (place + size ≤ length xs) × (a ≡ f (part xs place size))
  unfolding asked
  asked_got a e = grind (arith, nat_tests)

  pub asked_lost : (r : Refusal) → Err r ≡ asked f xs place size → (length xs < place + size) × (r ≡ record { reason = SourceEnd; place = 0 })
  unfolding asked
  asked_lost r e = grind (arith, nat_tests)

-- Another question about the same part.
module _ {A B : Type 0} (f : List ℕ → A) (k : List ℕ → B) (xs : List ℕ) (place size : ℕ) where
  pub asked_as : (h : A → B) (a : A) → Ok a ≡ asked f xs place size → ((ys : List ℕ) → h (f ys) ≡ k ys) → Ok (h a) ≡ asked k xs place size
  asked_as h a e s =
      let g = asked_got f xs place size a e in ap (λ b. Ok (h b)) g.1 ∙ ap Ok (s (part xs place size)) ∙ sym (asked_within k xs place size g.0)

  pub asked_too_far : (r : Refusal) → Err r ≡ asked f xs place size → Err r ≡ asked k xs place size
  asked_too_far r e = let g = asked_lost f xs place size r e in ap Err g.1 ∙ sym (asked_past k xs place size g.0)
