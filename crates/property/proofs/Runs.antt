-- Runs of values, and the place behind them.
use Rattle.std.proofs.Common.{◌≡◌, ℕ, zero, suc, ◌+◌, ◌*◌, ◌≤◌, List, ◌∷◌, Ok, Err, sym, refl, ◌∙◌, inl, inr, suc-mul, zero-mul, arith}
use Rattle.std.proofs.lemmas.Bool.{le-leb, lt-leb}
use Rattle.std.proofs.lemmas.Bool.Decides.{leb_tells}
use Rattle.source.specs.Outcome.{Outcome, ◌>>=◌, ◌>>◌}
use Rattle.property.specs.declared.kinds.Kind.{Kind}
use Rattle.property.specs.Fields.{At, at, padded, behind, repeated}
use Rattle.property.specs.Repeats.{stepped}
use Rattle.property.specs.Values.{run_end, fixed_value}

-- What is made of what was read does not change the place.
next_through : {A B : Type 0} (o : Outcome (At A)) (f : At A → B) → behind (o >>= (λ r. Ok (at (f r) r.next))) ≡ behind o
unfolding ◌>>=◌
next_through (Ok r) f = refl
next_through (Err e) f = refl

-- Only the places, of things that are read in a row.
pub stepped_behind : {A : Type 0} (read : ℕ → Outcome (At A)) (n p : ℕ) → stepped (λ q. behind (read q)) n p ≡ behind (repeated read n p)
unfolding stepped repeated ◌>>=◌
stepped_behind {A = A} read zero p = refl
stepped_behind {A = A} read (suc n) p = turn (λ q. stepped_behind read n q) (read p)
  where
    turn : ((q : ℕ) → stepped (λ r. behind (read r)) n q ≡ behind (repeated read n q)) → (o : Outcome (At A)) → (behind o >>= stepped (λ q. behind (read q)) n) ≡ behind (o >>= (λ a. repeated read n a.next >>= (λ rest. Ok (at (a.what ∷ rest.what) rest.next))))
    turn rest (Ok a) = rest a.next ∙ sym (next_through (repeated read n a.next) _)
    turn rest (Err r) = refl

-- The end of a run, for every kind, by one product.
module _ (xs : List ℕ) (end start : ℕ) where
  pub run_all : (k : Kind) (w n p : ℕ) → p ≤ end → behind (repeated (fixed_value xs end start k w) n p) ≡ run_end end start w n p
  unfolding repeated fixed_value run_end ◌>>=◌ ◌>>◌
  run_all k w zero p h = grind (arith, le-leb, zero-mul)
  run_all k w (suc n) p h =
      let m : p + padded w + n * padded w ≡ p + suc n * padded w = omega (arith, suc-mul n (padded w)) in
      elim (leb_tells (p + padded w) end) [
        | inl t ↦ rw t.0 (next_through (repeated (fixed_value xs end start k w) n (p + padded w)) _ ∙ run_all k w n (p + padded w) t.1 ∙ rw m)
        | inr f ↦ rw (f.0, lt-leb (p + suc n * padded w) end (omega arith))
      ]
