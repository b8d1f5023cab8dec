-- What a result was, by its `ok`, a number that was asked for so, and what was given.
use Rattle.std.proofs.Common.{◌≡◌, ℕ, ◌+◌, ◌<◌, ◌≤◌, List, length, Some, None, Ok, Err, Option, Result, sym, refl, ap, ◌∙◌, arith}
use Rattle.std.specs.Result.{result_ok}
use Rattle.source.specs.Bytes.{part}
use Rattle.source.specs.Outcome.{given}
use Rattle.source.specs.declared.refusals.Reason.{Reason}
use Rattle.source.specs.declared.refusals.Refusal.{Refusal}
use Rattle.source.proofs.Outcomes.{err_not_ok}
use Rattle.scan.specs.Scans.{asked}
use Rattle.scan.proofs.Parts.{asked_got, asked_lost}

module _ {A E : Type 0} where
  pub ok_is : (a : A) (r : Result A E) → Some a ≡ result_ok r → r ≡ Ok a
  ok_is a (Ok b) e = let s : a ≡ b = cc in ap Ok (sym s)
  ok_is a (Err x) e = let z : ◌≡◌ {A = ℕ} 0 1 = cc in absurd (omega arith)

  pub err_is : (r : Result A E) → None ≡ result_ok r → (x : E) × (r ≡ Err x)
  err_is (Ok b) e = let z : ◌≡◌ {A = ℕ} 0 1 = cc in absurd (omega arith)
  err_is (Err x) e = (x, refl)

module _ {A : Type 0} (f : List ℕ → A) (xs : List ℕ) (place size : ℕ) (r : Result A Refusal) where
  pub some_got : (a : A) → Some a ≡ result_ok r → r ≡ asked f xs place size → (place + size ≤ length xs) × (a ≡ f (part xs place size))
  some_got a e q = asked_got f xs place size a (sym (ok_is a r e) ∙ q)

  pub none_lost : None ≡ result_ok r → r ≡ asked f xs place size → length xs < place + size
  none_lost e q = let (x, is) = err_is r e in (asked_lost f xs place size x (sym is ∙ q)).0

pub given_got : {A : Type 0} (o : Option A) (r : Reason) (p : ℕ) (a : A) → Ok a ≡ given o r p → o ≡ Some a
given_got (Some b) r p a e = let s : a ≡ b = cc in ap Some (sym s)
given_got None r p a e = absurd (err_not_ok (sym e))
