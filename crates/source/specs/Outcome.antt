-- What a reading gives: what was read, or the first refusal.
use Rattle.std.specs.Prelude.{ℕ, Bool, true, false, Some, None, Ok, Err, Option, Result}
use Rattle.source.specs.declared.refusals.Reason.{Reason}
use Rattle.source.specs.declared.refusals.Refusal.{Refusal}

infixl 20 ◌>>=◌
infixl 20 ◌>>◌
abbrev pub Outcome : Type 0 → Type 0
Outcome A = Result A Refusal

unfoldable pub ◌>>=◌ : {A B : Type 0} → Outcome A → (A → Outcome B) → Outcome B
◌>>=◌ (Ok a) f = f a
◌>>=◌ (Err e) f = Err e

unfoldable pub ◌>>◌ : {A B : Type 0} → Outcome A → Outcome B → Outcome B
◌>>◌ (Ok a) b = b
◌>>◌ (Err e) b = Err e

abbrev pub refused : {A : Type 0} → Reason → ℕ → Outcome A
refused r p = Err (record { reason = r; place = p })

-- Goes on where the test holds.
abbrev pub need : Bool → Reason → ℕ → Outcome (Unit {0})
need true r p = Ok tt
need false r p = refused r p

-- Goes on with what is there.
abbrev pub given : {A : Type 0} → Option A → Reason → ℕ → Outcome A
given (Some a) r p = Ok a
given None r p = refused r p

-- Another view of what was read.
abbrev pub over : {A B : Type 0} → (A → B) → Outcome A → Outcome B
over f (Ok a) = Ok (f a)
over f (Err e) = Err e
