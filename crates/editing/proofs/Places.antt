-- Lists of which one element is found, changed or left out.
use Rattle.std.proofs.Common.{◌≡◌, ℕ, zero, suc, ◌≤◌, List, [], ◌∷◌, length, Some, refl, ap, arith}
use Rattle.std.specs.List.{AllByRecursion}
use Rattle.message.specs.Sameness.{nth}
use Rattle.editing.specs.Slots.{change_nth, without_nth}

module _ {A : Type 0} (P : A → Type 0) where
  pub nth_all : (xs : List A) (n : ℕ) (a : A) → AllByRecursion P xs → nth xs n ≡ Some a → P a
  nth_all [] n a all is = absurd (let z : ◌≡◌ {A = ℕ} 0 1 = cc in omega arith)
  nth_all (x ∷ xs) zero a all is = let same : x ≡ a = cc in rw same at all.0
  nth_all (x ∷ xs) (suc n) a all is = nth_all xs n a all.1 is

  pub change_all : (xs : List A) (n : ℕ) (y : A) → AllByRecursion P xs → P y → AllByRecursion P (change_nth xs n y)
  change_all [] n y all p = tt
  change_all (x ∷ xs) zero y all p = (p, all.1)
  change_all (x ∷ xs) (suc n) y all p = (all.0, change_all xs n y all.1 p)

  pub without_all : (xs : List A) (n : ℕ) → AllByRecursion P xs → AllByRecursion P (without_nth xs n)
  without_all [] n all = tt
  without_all (x ∷ xs) zero all = all.1
  without_all (x ∷ xs) (suc n) all = (all.0, without_all xs n all.1)

module _ {A : Type 0} where
  pub change_length : (xs : List A) (n : ℕ) (y : A) → length (change_nth xs n y) ≡ length xs
  change_length [] n y = refl
  change_length (x ∷ xs) zero y = refl
  change_length (x ∷ xs) (suc n) y = ap suc (change_length xs n y)

  pub without_length : (xs : List A) (n : ℕ) → length (without_nth xs n) ≤ length xs
  without_length [] n = omega arith
  without_length (x ∷ xs) zero = omega arith
  without_length (x ∷ xs) (suc n) = omega (arith, without_length xs n)

  pub nth_there : (xs : List A) (n : ℕ) (x y : A) → nth xs n ≡ Some x → nth (change_nth xs n y) n ≡ Some y
  nth_there [] n x y e = absurd (let z : ◌≡◌ {A = ℕ} 0 1 = cc in omega arith)
  nth_there (a ∷ xs) zero x y e = refl
  nth_there (a ∷ xs) (suc n) x y e = nth_there xs n x y e

  pub nth_other : (xs : List A) (n k : ℕ) (y : A) → (k ≡ n → ⊥) → nth (change_nth xs n y) k ≡ nth xs k
  nth_other [] n k y d = refl
  nth_other (a ∷ xs) zero zero y d = absurd (d refl)
  nth_other (a ∷ xs) zero (suc k) y d = refl
  nth_other (a ∷ xs) (suc n) zero y d = refl
  nth_other (a ∷ xs) (suc n) (suc k) y d = nth_other xs n k y (λ e. d (ap suc e))
