use Rattle.std.proofs.Common.{◌≡◌, ℕ, ◌+◌, ◌%◌, ◌<◌, List, [], ◌∷◌, fold, sum, arith}
use Rattle.std.proofs.lemmas.List.Sums.{sum_by-cons}
use Rattle.scan.specs.declared.sums.Sum.{Sum}

-- The running sum, from any start.
pub folded_sum : (s : Sum) (xs : List ℕ) → s.total < 65536
    → (fold (λ (t : Sum) b. record { total = (t.total + b) % 65536 }) s xs).total ≡ (s.total + sum xs) % 65536
folded_sum s [] h = omega arith
folded_sum s (x ∷ xs) h =
    let e = folded_sum (record { total = (s.total + x) % 65536 }) xs (omega arith) in omega (arith, e, sum_by-cons (λ x. x) x xs)
