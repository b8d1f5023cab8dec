-- The laws of kinds: only the truth has bytes that are not normal.
use Rattle.std.proofs.Common.{◌≡◌, ℕ, Bool, true, false, cond, not, eqb, List, length, sym, refl, ap, ◌∙◌}
use Rattle.source.specs.Bytes.{val, le}
use Rattle.property.specs.declared.kinds.Kind.{Kind}
use Rattle.property.specs.declared.kinds.Kind.TheVariants.{Fixed, YesNo, String8, String16, Binary, Object}
use Rattle.property.specs.Kinds.{truth, value, normal, Admitted, Lawful}

length_truth : (b : Bool) → eqb (length (le 2 (cond b 1 0))) 2 ≡ true
unfolding le
length_truth true = refl
length_truth false = refl

truth_again : (b : Bool) → truth (not (eqb (val (le 2 (cond b 1 0))) 0)) ≡ truth b
unfolding le val
truth_again true = refl
truth_again false = refl

normal_admitted : (k : Kind) (xs : List ℕ) → Admitted k xs → Admitted k (normal (value k xs))
normal_admitted (Fixed w) xs h = h
normal_admitted YesNo xs h = (length_truth (not (eqb (val xs) 0)), refl)
normal_admitted String8 xs h = h
normal_admitted String16 xs h = h
normal_admitted Binary xs h = h
normal_admitted Object xs h = h

normal_means : (k : Kind) (xs : List ℕ) → value k (normal (value k xs)) ≡ value k xs
normal_means (Fixed w) xs = refl
normal_means YesNo xs = truth_again (not (eqb (val xs) 0))
normal_means String8 xs = refl
normal_means String16 xs = refl
normal_means Binary xs = refl
normal_means Object xs = refl

pub lawful : Lawful
lawful = record {
  admitted = normal_admitted;
  means = λ k xs h. normal_means k xs;
  like = λ k xs ys h i e. ap normal e;
  unlike = λ k xs ys h i e. sym (normal_means k xs) ∙ ap (value k) e ∙ normal_means k ys;
}
