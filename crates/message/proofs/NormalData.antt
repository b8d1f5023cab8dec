-- The normal data of contents are octets; those of a code page mean it.
use Rattle.std.proofs.Common.{◌≡◌, ℕ, zero, suc, ◌^◌, ◌<◌, ◌≤◌, Bool, true, ◌&&◌, eqb, ltb, List, [], ◌∷◌, ◌++◌, map, length, Some, None, Option, refl, arith}
use Rattle.std.proofs.ByRecursion.{All-append}
use Rattle.std.proofs.lemmas.Bool.{and_parts, ltb-true}
use Rattle.source.specs.Bytes.{Octets, le, val, part}
use Rattle.scan.specs.Texts.{also, before_zero}
use Rattle.attribute.specs.declared.Rule.{Rule}
use Rattle.attribute.specs.declared.Rule.TheVariants as rule
use Rattle.contents.specs.Options.{then, exactly}
use Rattle.contents.specs.Calendar.{date_of}
use Rattle.contents.specs.Classes.{pair_number}
use Rattle.contents.specs.Digits.{digit, capital, digit_pairs}
use Rattle.contents.specs.Status.{status_in}
use Rattle.contents.specs.Contents.{Contents, text, class, date, digits, status, importance, truth, raw, version, code_page, class_of, importance_in, truth_in, code_page_in, checked_rendering, right_rendering, rendering_in, is_version, means, normal, primary_number}
use Rattle.contents.proofs.LittleEndian.{val_part}
use Rattle.contents.proofs.Normal.{zero_gives, pair_within}
use Rattle.contents.proofs.Parts.{where_some, also_some, then_some, exactly_some, exactly_all}
use Rattle.message.proofs.Pieces.{octets_le}

-- Octets by a test, which computes.
abbrev are_octets : List ℕ → Bool
are_octets [] = true
are_octets (x ∷ xs) = ltb x 256 && are_octets xs

octets_tested : (xs : List ℕ) → are_octets xs ≡ true → Octets xs
octets_tested [] e = tt
octets_tested (x ∷ xs) e = let (a, b) = and_parts (ltb x 256) (are_octets xs) e in (ltb-true x 256 a, octets_tested xs b)

two : (w m v n : ℕ) → Octets (le w m ++ le v n)
two w m v n = All-append _ (le w m) (le v n) (octets_le w m) (octets_le v n)

class_octets : (k : ℕ) → 1 ≤ k → k < 9 → are_octets (normal (class k)) ≡ true
unfolding normal
class_octets zero a b = absurd (omega arith)
class_octets (suc zero) a b = refl
class_octets (suc (suc zero)) a b = refl
class_octets (suc (suc (suc zero))) a b = refl
class_octets (suc (suc (suc (suc zero)))) a b = refl
class_octets (suc (suc (suc (suc (suc zero))))) a b = refl
class_octets (suc (suc (suc (suc (suc (suc zero)))))) a b = refl
class_octets (suc (suc (suc (suc (suc (suc (suc zero))))))) a b = refl
class_octets (suc (suc (suc (suc (suc (suc (suc (suc zero)))))))) a b = refl
class_octets (suc (suc (suc (suc (suc (suc (suc (suc (suc k))))))))) a b = absurd (omega arith)

digit_octet : (c n : ℕ) → digit c ≡ Some n → capital n < 256
digit_octet c n e = let small : n < 16 = grind arith in grind arith

digits_octets : (cs ns : List ℕ) → digit_pairs cs ≡ Some ns → Octets (map capital ns)
unfolding digit_pairs
digits_octets [] ns e = absurd (let z : ◌≡◌ {A = ℕ} 0 1 = cc in omega arith)
digits_octets (c ∷ []) ns e = let (t, same) = where_some (eqb c 0) [] ns e in rw (← same) tt
digits_octets (c ∷ (d ∷ rest)) ns e =
    let (m, em, e₁) = then_some (digit c) (λ m. then (digit d) (λ n. also (digit_pairs rest) (λ ns. m ∷ (n ∷ ns)))) ns e in
    let (n, en, e₂) = then_some (digit d) (λ n. also (digit_pairs rest) (λ ns. m ∷ (n ∷ ns))) ns e₁ in
    let (ms, er, same) = also_some (digit_pairs rest) (λ ns. m ∷ (n ∷ ns)) ns e₂ in
    rw (← same) (digit_octet c m em, (digit_octet d n en, digits_octets rest ms er))

class_octets_of : (d t : List ℕ) (c : Contents) → Octets d → d ≡ t ++ 0 ∷ [] → class_of t ≡ c → Octets (normal c)
unfolding normal
class_octets_of d t c o is e = go (pair_number t) refl
  where
    go : (p : Option ℕ) → pair_number t ≡ p → Octets (normal c)
    go (Some k) ip =
        let r = pair_within t k ip in
        let same : class k ≡ c = rw ip at e in
        rw (← same) (octets_tested (normal (class k)) (class_octets k r.0 r.1))
    go None ip = let same : text t ≡ c = rw ip at e in rw (← same) (rw is at o)

pub normal_octets : (ρ : Rule) (d : List ℕ) (c : Contents) → Octets d → means ρ d ≡ Some c → Octets (normal c)
unfolding means normal
normal_octets rule.Text d c o e =
    let (t, et, same) = also_some (before_zero d) text c e in
    let (n, is) = zero_gives d t et in
    rw (← same) (rw is at o)
normal_octets rule.Class d c o e =
    let (t, et, same) = also_some (before_zero d) class_of c e in
    let (n, is) = zero_gives d t et in
    class_octets_of d t c o is same
normal_octets rule.Date d c o e =
    let (day, ed, same) = also_some (date_of d) date c e in
    rw (← same)
    (All-append _ _ _ (All-append _ _ _ (All-append _ _ _ (All-append _ _ _ (All-append _ _ _ (two 2 _ 2 _) (octets_le 2 _)) (octets_le 2 _)) (octets_le 2 _)) (octets_le 2 _)) (octets_le 2 _))
normal_octets rule.Digits d c o e =
    let (ns, en, same) = also_some (digit_pairs d) digits c e in
    rw (← same) (All-append _ (map capital ns) (0 ∷ []) (digits_octets d ns en) (omega arith, tt))
normal_octets rule.Status d c o e = let (s, es, same) = also_some (status_in d) status c e in rw (← same) (octets_le 4 _)
normal_octets rule.Priority d c o e = let (n, en, same) = also_some (importance_in d) importance c e in rw (← same) (octets_le 2 _)
normal_octets rule.YesNo d c o e = let (b, eb, same) = also_some (truth_in d) truth c e in rw (← same) (octets_le 2 _)
normal_octets rule.Raw d c o e = let same : raw d ≡ c = cc in rw (← same) o
normal_octets rule.Rendering d c o e =
    let (ys, ey, e₁) = then_some (exactly 14 d) checked_rendering c e in
    let (t, same) = where_some (right_rendering ys) (rendering_in ys) c e₁ in
    rw (← same) (All-append _ _ _ (All-append _ _ _ (All-append _ _ _ (two 2 _ 4 _) (octets_le 2 _)) (octets_le 2 _)) (octets_le 4 _))
normal_octets rule.Version d c o e =
    let (t, same) = where_some (is_version d) version c e in
    rw (← same) (octets_tested (normal version) refl)
normal_octets rule.CodePage d c o e = let (n, en, same) = also_some (code_page_in d) code_page c e in rw (← same) (two 4 _ 4 _)
normal_octets rule.Recipients d c o e = absurd (let z : ◌≡◌ {A = ℕ} 0 1 = cc in omega arith)
normal_octets rule.Properties d c o e = absurd (let z : ◌≡◌ {A = ℕ} 0 1 = cc in omega arith)

page_at : (xs : List ℕ) (n : ℕ) → length xs ≡ 8 → val (part xs 0 4) ≡ n → means rule.CodePage xs ≡ Some (code_page n)
unfolding means
page_at xs n l a = rw (exactly_all 8 xs l, a)

pub page_normal : (n : ℕ) → n < 256 ^ 4 → means rule.CodePage (normal (code_page n)) ≡ Some (code_page n)
unfolding normal le val part
page_normal n a = page_at (normal (code_page n)) n refl (omega arith)

pub page_octets : (n : ℕ) → Octets (normal (code_page n))
unfolding normal
page_octets n = two 4 n 4 0

pub page_small : (d : List ℕ) (c : Contents) → Octets d → means rule.CodePage d ≡ Some c → primary_number c < 256 ^ 4
unfolding means
page_small d c o e =
    let (n, en, same) = also_some (code_page_in d) code_page c e in
    let (ys, ey, is) = also_some (exactly 8 d) (λ ys. val (part ys 0 4)) n en in
    let (l, ds) = exactly_some 8 d ys ey in
    rw (← same, ← is, ← ds) (val_part d 0 4 o (omega arith))
