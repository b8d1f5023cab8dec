-- Texts that begin with a prefix, and the attribute value of a pair by its number.
use Rattle.std.proofs.Common.{◌≡◌, ℕ, zero, suc, ◌+◌, ◌<◌, false, ◌⊎◌, List, [], ◌∷◌, ◌++◌, map, length, get_or, sym, refl, ap, ◌∙◌, arith, rules}
use Rattle.std.proofs.lemmas.Slice.Eq.{compares_Decides}
use Rattle.std.proofs.lemmas.Bool.{eq-eqb, false_from_ne_true}
use Rattle.source.specs.Bytes.{same_bytes}
use Rattle.std.specs.List.{position as first_that}
use Rattle.scan.specs.Texts.{also}
use Rattle.contents.specs.Classes.{class_text, means_pair, pair_from}
use Rattle.contents.specs.Spelling.{spelled}
use Rattle.contents.specs.declared.classes.Pair.{Pair}

same_front : (p a b : List ℕ) → same_bytes (p ++ a) (p ++ b) ≡ same_bytes a b
same_front [] a b = refl
same_front (x ∷ p) a b = rw (eq-eqb x x refl) (same_front p a b)

pub prefixed : (p t rest a : List ℕ) → t ≡ p ++ rest → same_bytes rest a ≡ same_bytes t (p ++ a)
prefixed p t rest a e = sym (ap (λ l. same_bytes l (p ++ a)) e ∙ same_front p rest a)

pub unprefixed : (p t a : List ℕ) → ((rest : List ℕ) → t ≡ p ++ rest → ⊥) → false ≡ same_bytes t (p ++ a)
unprefixed p t a other = sym (false_from_ne_true _ (λ e. other a ((compares_Decides same_bytes (search rules) t (p ++ a)).0 e)))

-- The attribute value of a pair, by its number.
pub text_here : (table : List Pair) (k : ℕ) (d : Pair) → k < length table → (get_or table k d).attribute.now ≡ class_text (map spelled table) (suc k)
text_here [] k d h = absurd (omega arith)
text_here (p ∷ ps) zero d h = refl
text_here (p ∷ ps) (suc k) d h = text_here ps k d (omega arith)

pub text_none : (table : List Pair) (k : ℕ) → (k ≡ 0) ⊎ ((k ≡ 0 → ⊥) × (length table < k)) → class_text (map spelled table) k ≡ []
text_none [] k h = refl
text_none (p ∷ ps) zero h = refl
text_none (p ∷ ps) (suc zero) h = absurd (grind arith)
text_none (p ∷ ps) (suc (suc k)) h = text_none ps (suc k) (grind arith)

-- The number of a pair, by the place at which the library finds it.
pub number_from : (t : List ℕ) (table : List Pair) (k : ℕ)
    → pair_from t (map spelled table) k ≡ also (first_that (λ p. means_pair t (spelled p)) table) (λ n. n + k)
number_from t [] k = refl
number_from t (p ∷ ps) k = grind (arith, number_from t ps (k + 1))
