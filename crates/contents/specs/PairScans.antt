-- A scan of digits is closed at its end just if they are pairs, then a zero byte.
use Rattle.std.proofs.Common.{◌≡◌, ℕ, Bool, true, false, cond, eqb, List, [], ◌∷◌, is_some, Some, None, fold, Option, sym, refl, ◌∙◌, arith}
use Rattle.std.proofs.lemmas.Bool.{eqb-true}
use Rattle.scan.specs.Texts.{also}
use Rattle.contents.specs.declared.digits.Pairs.TheVariants.{Even, Odd, Closed, Broken}
use Rattle.contents.specs.Digits.{digit, digit_pairs, are_pairs}
use Rattle.contents.specs.Options.{where_true, then}
use Rattle.contents.specs.Steps.{pair_step, pairs_closed}

pub some_also : {A B : Type 0} (o : Option A) (f : A → B) → is_some (also o f) ≡ is_some o
some_also (Some a) f = refl
some_also None f = refl

broken : (xs : List ℕ) → pairs_closed (fold pair_step Broken xs) ≡ false
broken [] = refl
broken (x ∷ xs) = broken xs

one_left : (b c : Bool) → pairs_closed (cond b Closed (cond c Odd Broken)) ≡ is_some (where_true {A = List ℕ} b [])
one_left true c = refl
one_left false true = refl
one_left false false = refl

-- Two more bytes: a zero is no digit.
two_left : (z : Bool) (o p : Option ℕ) (d : ℕ) (rest : List ℕ) → (z ≡ true → o ≡ None) → digit d ≡ p → pairs_closed (fold pair_step Even rest) ≡ are_pairs rest
    → pairs_closed (fold pair_step (pair_step (cond z Closed (cond (is_some o) Odd Broken)) d) rest)
    ≡ is_some (then o (λ m. then p (λ n. also (digit_pairs rest) (λ ns. m ∷ (n ∷ ns)))))
two_left true (Some m) p d rest h e ih = let no_digit = h refl in let z : ◌≡◌ {A = ℕ} 0 1 = cc in absurd (omega arith)
two_left true None p d rest h e ih = broken rest
two_left false (Some m) (Some n) d rest h e ih = rw e (ih ∙ sym (some_also (digit_pairs rest) _))
two_left false (Some m) None d rest h e ih = rw e (broken rest)
two_left false None p d rest h e ih = broken rest

zero_none : (c : ℕ) → eqb c 0 ≡ true → digit c ≡ None
zero_none c e = rw (eqb-true c 0 e)

pub pairs_all : (xs : List ℕ) → pairs_closed (fold pair_step Even xs) ≡ are_pairs xs
unfolding digit_pairs
pairs_all [] = refl
pairs_all (c ∷ []) = one_left (eqb c 0) (is_some (digit c))
pairs_all (c ∷ (d ∷ rest)) = two_left (eqb c 0) (digit c) (digit d) d rest (zero_none c) refl (pairs_all rest)
