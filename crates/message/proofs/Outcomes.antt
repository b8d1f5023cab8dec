-- What is known where a chain of steps ends well.
use Rattle.std.proofs.Common.{◌≡◌, ℕ, Bool, true, false, Some, None, Ok, Err, Option, refl, arith}
use Rattle.source.specs.declared.refusals.Reason.{Reason}
use Rattle.source.specs.Outcome.{Outcome, ◌>>=◌, ◌>>◌, need, given, over}

pub bind_ok : {A B : Type 0} (o : Outcome A) (next : A → Outcome B) (b : B) → (o >>= next) ≡ Ok b → (a : A) × (o ≡ Ok a) × (next a ≡ Ok b)
unfolding ◌>>=◌
bind_ok (Ok a) next b e = (a, refl, e)
bind_ok (Err r) next b e = absurd (let z : ◌≡◌ {A = ℕ} 0 1 = cc in omega arith)

pub need_ok : {B : Type 0} (t : Bool) (r : Reason) (p : ℕ) (next : Outcome B) (b : B) → (need t r p >> next) ≡ Ok b → (t ≡ true) × (next ≡ Ok b)
unfolding ◌>>◌
need_ok true r p next b e = (refl, e)
need_ok false r p next b e = absurd (let z : ◌≡◌ {A = ℕ} 0 1 = cc in omega arith)

pub given_ok : {A : Type 0} (o : Option A) (r : Reason) (p : ℕ) (a : A) → given o r p ≡ Ok a → o ≡ Some a
given_ok (Some b) r p a e = cc
given_ok None r p a e = absurd (let z : ◌≡◌ {A = ℕ} 0 1 = cc in omega arith)

pub over_ok : {A B : Type 0} (f : A → B) (o : Outcome A) (b : B) → over f o ≡ Ok b → (a : A) × (o ≡ Ok a) × (f a ≡ b)
over_ok f (Ok a) b e = (a, refl, cc)
over_ok f (Err r) b e = absurd (let z : ◌≡◌ {A = ℕ} 0 1 = cc in omega arith)

pub need_true : {B : Type 0} (t : Bool) (r : Reason) (p : ℕ) (next : Outcome B) → t ≡ true → (need t r p >> next) ≡ next
unfolding ◌>>◌
need_true true r p next e = refl
need_true false r p next e = absurd (let z : ◌≡◌ {A = ℕ} 0 1 = cc in omega arith)
