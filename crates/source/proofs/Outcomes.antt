-- Outcomes: what was read in front of what was read.
use Rattle.std.proofs.Common.{◌≡◌, ℕ, Bool, true, false, Ok, Err, sym, refl, arith}
use Rattle.source.specs.Outcome.{Outcome, ◌>>=◌, ◌>>◌, need, over}
use Rattle.source.specs.declared.refusals.Reason.{Reason}
use Rattle.source.specs.declared.refusals.Refusal.{Refusal}

pub err_not_ok : {A : Type 0} {r : Refusal} {a : A} → ◌≡◌ {A = Outcome A} (Err r) (Ok a) → ⊥
err_not_ok e = let z : ◌≡◌ {A = ℕ} 0 1 = cc in omega arith

pub ok_same : {A : Type 0} (a b : A) → ◌≡◌ {A = Outcome A} (Ok a) (Ok b) → a ≡ b
ok_same a b e = cc

pub need_got : (b : Bool) (q : Reason) (p : ℕ) (u : Unit {0}) → Ok u ≡ need b q p → b ≡ true
need_got true q p u e = refl
need_got false q p u e = absurd (err_not_ok (sym e))

pub bind_got : {A B : Type 0} (o : Outcome A) (f : A → Outcome B) (b : B) → Ok b ≡ (o >>= f) → (a : A) × (Ok a ≡ o) × (Ok b ≡ f a)
unfolding ◌>>=◌
bind_got (Ok a) f b e = (a, refl, e)
bind_got (Err r) f b e = absurd (err_not_ok (sym e))

pub then_got : {A B : Type 0} (o : Outcome A) (q : Outcome B) (b : B) → Ok b ≡ (o >> q) → (a : A) × (Ok a ≡ o) × (Ok b ≡ q)
unfolding ◌>>◌
then_got (Ok a) q b e = (a, refl, e)
then_got (Err r) q b e = absurd (err_not_ok (sym e))

pub over_over : {A B C : Type 0} (f : A → B) (g : B → C) (o : Outcome A) → over g (over f o) ≡ over (λ a. g (f a)) o
over_over f g (Ok a) = refl
over_over f g (Err r) = refl

pub over_got : {A B : Type 0} (f : A → B) (o : Outcome A) (b : B) → Ok b ≡ over f o → (a : A) × (Ok a ≡ o) × (b ≡ f a)
over_got f (Ok a) b e = (a, refl, cc)
over_got f (Err r) b e = absurd (err_not_ok (sym e))

pub over_lost : {A B : Type 0} (f : A → B) (o : Outcome A) (r : Refusal) → Err r ≡ over f o → Err r ≡ o
over_lost f (Ok a) r e = absurd (err_not_ok e)
over_lost f (Err q) r e = cc
