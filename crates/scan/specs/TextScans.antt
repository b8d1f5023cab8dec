-- A text is closed at its end just if its one zero is its last.
use Rattle.std.proofs.Common.{◌≡◌, ℕ, false, List, [], ◌∷◌, is_some, Some, None, fold, Option, refl}
use Rattle.std.proofs.Common.{arith}
use Rattle.std.proofs.lemmas.Bool.Decides.{nat_tests}
use Rattle.scan.specs.declared.texts.Text.TheVariants as text
use Rattle.scan.specs.declared.texts.Units.TheVariants as units
use Rattle.scan.specs.Texts.{before_zero, also, is_text16}
use Rattle.scan.specs.Steps.{text_step, unit_step, text_closed, units_closed}

text_broken : (xs : List ℕ) → text_closed (fold text_step text.Broken xs) ≡ false
text_broken [] = refl
text_broken (x ∷ xs) = text_broken xs

some_also : {A B : Type 0} (o : Option A) (f : A → B) → is_some (also o f) ≡ is_some o
some_also (Some a) f = refl
some_also None f = refl

pub text_all : (xs : List ℕ) → text_closed (fold text_step text.Open xs) ≡ is_some (before_zero xs)
unfolding before_zero
text_all [] = refl
text_all (x ∷ []) = grind (arith, nat_tests)
text_all (x ∷ (y ∷ ys)) = grind (arith, nat_tests, text_all (y ∷ ys), text_broken ys, some_also)

units_broken : (xs : List ℕ) → units_closed (fold unit_step units.Broken xs) ≡ false
units_broken [] = refl
units_broken (x ∷ xs) = units_broken xs

pub units_all : (xs : List ℕ) → units_closed (fold unit_step units.Open xs) ≡ is_text16 xs
unfolding is_text16
units_all [] = refl
units_all (a ∷ []) = grind (arith, nat_tests)
units_all (a ∷ (b ∷ [])) = grind (arith, nat_tests)
units_all (a ∷ (b ∷ (c ∷ rest))) = grind (arith, nat_tests, units_broken rest, units_all (c ∷ rest))
