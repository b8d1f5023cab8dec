-- The normal data of contents mean the contents, under every rule.
use Rattle.std.proofs.Common.{◌≡◌, ℕ, zero, suc, ◌+◌, ◌-◌, ◌^◌, ◌<◌, ◌≤◌, Bool, true, false, ◌&&◌, ◌||◌, eqb, leb, List, [], ◌∷◌, ◌++◌, map, length, Some, None, Option, sym, refl, ap, ◌∙◌, inl, inr, arith}
use Rattle.std.specs.List.{AllByRecursion}
use Rattle.std.proofs.lemmas.List.{length-append, length-map}
use Rattle.std.proofs.lemmas.Bool.{eqb-true, and_parts, cases_Bool, le-leb, leb-true}
use Rattle.source.specs.Bytes.{Octets, le, val, part}
use Rattle.scan.specs.Texts.{also, nothing_more, before_zero}
use Rattle.attribute.specs.declared.Rule.{Rule}
use Rattle.attribute.specs.declared.Rule.TheVariants as rule
use Rattle.contents.specs.declared.dates.Date.{Date}
use Rattle.contents.specs.declared.statuses.Status.{Status}
use Rattle.contents.specs.Options.{then, exactly, number}
use Rattle.contents.specs.Calendar.{month_length, is_date, word, date_in, checked, date_of}
use Rattle.contents.specs.Classes.{Pair, pairs, pair_from, pair_number}
use Rattle.contents.specs.Digits.{digit, digit_pairs, capital}
use Rattle.contents.specs.Status.{status_in}
use Rattle.contents.specs.Contents.{Contents, text, class, date, digits, status, importance, truth, raw, rendering, version, code_page, class_of, ranked, importance_in, truth_in, code_page_in, right_rendering, rendering_in, checked_rendering, is_version, means, normal, admits, normal_of, normal_data}
use Rattle.contents.specs.Laws.{NormalMeansSame, NormalDecides}
use Rattle.scan.proofs.Numbers.{length_le, val_le}
use Rattle.contents.proofs.LittleEndian.{val_part}
use Rattle.contents.proofs.Parts.{some_is, where_some, also_some, then_some, exactly_some, exactly_all}

-- Text: no zero before the last byte.
abbrev pub NoZero : List ℕ → Type 0
NoZero t = AllByRecursion (λ x. eqb x 0 ≡ false) t

pub zero_back : (t : List ℕ) → NoZero t → before_zero (t ++ 0 ∷ []) ≡ Some t
unfolding before_zero
zero_back [] h = refl
zero_back (x ∷ t) h = rw (h.0, zero_back t h.1)

nothing_some : (xs t : List ℕ) → nothing_more xs ≡ Some t → (xs ≡ []) × (t ≡ [])
nothing_some [] t e = (refl, cc)
nothing_some (x ∷ xs) t e = absurd cc

pub zero_gives : (xs t : List ℕ) → before_zero xs ≡ Some t → NoZero t × (xs ≡ t ++ 0 ∷ [])
unfolding before_zero
zero_gives [] t e = absurd cc
zero_gives (x ∷ xs) t e =
    elim (cases_Bool (eqb x 0)) [
      | inl z ↦
          let (a, b) = nothing_some xs t (rw z at e) in
          let zero' = eqb-true x 0 z in
          rw (b, a, zero') (tt, refl)
      | inr f ↦
          let (ys, ey, same) = also_some (before_zero xs) (λ ys. x ∷ ys) t (rw f at e) in
          let (n, is) = zero_gives xs ys ey in
          (rw (← same) (f, n), ap (λ l. x ∷ l) is ∙ ap (λ l. l ++ 0 ∷ []) same)
    ]

-- Classes.
pair_range : (t : List ℕ) (ps : List Pair) (n k : ℕ) → pair_from t ps n ≡ Some k → (n ≤ k) × (k < n + length ps)
pair_range t [] n k e = absurd cc
pair_range t (p ∷ ps) n k e = grind (arith, pair_range t ps (n + 1) k)

pub pair_within : (t : List ℕ) (k : ℕ) → pair_number t ≡ Some k → (1 ≤ k) × (k < 9)
unfolding pair_number
pair_within t k e = pair_range t pairs 1 k e

class_back : (k : ℕ) → 1 ≤ k → k < 9 → (means rule.Class (normal (class k)) ≡ Some (class k)) × (leb (length (normal (class k))) 64 ≡ true)
unfolding means normal before_zero pair_number
class_back zero a b = absurd (omega arith)
class_back (suc zero) a b = (refl, refl)
class_back (suc (suc zero)) a b = (refl, refl)
class_back (suc (suc (suc zero))) a b = (refl, refl)
class_back (suc (suc (suc (suc zero)))) a b = (refl, refl)
class_back (suc (suc (suc (suc (suc zero))))) a b = (refl, refl)
class_back (suc (suc (suc (suc (suc (suc zero)))))) a b = (refl, refl)
class_back (suc (suc (suc (suc (suc (suc (suc zero))))))) a b = (refl, refl)
class_back (suc (suc (suc (suc (suc (suc (suc (suc zero)))))))) a b = (refl, refl)
class_back (suc (suc (suc (suc (suc (suc (suc (suc (suc k))))))))) a b = absurd (omega arith)

class_normal : (t : List ℕ) (c : Contents) → NoZero t → class_of t ≡ c → (means rule.Class (normal c) ≡ Some c) × (length (normal c) ≤ length t + 64)
unfolding means normal
class_normal t c h e = go (pair_number t) refl
  where
    go : (o : Option ℕ) → pair_number t ≡ o → (means rule.Class (normal c) ≡ Some c) × (length (normal c) ≤ length t + 64)
    go (Some k) is =
        let r = pair_within t k is in
        let same : class k ≡ c = rw is at e in
        let b = class_back k r.0 r.1 in
        rw (← same) (b.0, omega (arith, leb-true _ _ b.1))
    go None is =
        let same : text t ≡ c = rw is at e in
        let again : class_of t ≡ text t = rw is in
        rw (← same) (rw (zero_back t h, again), omega (arith, length-append t (0 ∷ [])))

-- Dates.
date_at : (xs : List ℕ) (d : Date) → length xs ≡ 14 → word xs 0 ≡ d.year → word xs 1 ≡ d.month → word xs 2 ≡ d.day → word xs 3 ≡ d.hour → word xs 4 ≡ d.minute → word xs 5 ≡ d.second →
    is_date d ≡ true → date_of xs ≡ Some d
date_at xs d l y m b h i s ok =
    let same : date_in xs ≡ d = rw (y, m, b, h, i, s) in
    rw (exactly_all 14 xs l) (ap checked same ∙ rw ok)

pub month_small : (y m : ℕ) → month_length y m ≤ 31
month_small y m = grind arith

pub record Small (d : Date) : Type 0 where
  pub year : d.year ≤ 9999
  pub month : d.month ≤ 12
  pub day : d.day ≤ 31
  pub hour : d.hour ≤ 23
  pub minute : d.minute ≤ 59
  pub second : d.second ≤ 59

pub date_small : (d : Date) → is_date d ≡ true → Small d
date_small d e = go (month_length d.year d.month) (month_small d.year d.month) e
  where
    go : (n : ℕ) → n ≤ 31
        → (leb 1601 d.year && leb d.year 9999 && leb 1 d.month && leb d.month 12 && leb 1 d.day && leb d.day n && leb d.hour 23 && leb d.minute 59 && leb d.second 59) ≡ true
        → Small d
    go n h e = record { year = grind arith; month = grind arith; day = grind arith; hour = grind arith; minute = grind arith; second = grind arith }

date_normal : (d : Date) → is_date d ≡ true → date_of (normal (date d)) ≡ Some d
unfolding normal le val part
date_normal d e =
    let small = date_small d e in
    date_at (normal (date d)) d refl (omega arith) (omega arith) (omega arith) (omega arith) (omega arith) (omega arith) e

-- Digits.
digit_small : (c n : ℕ) → digit c ≡ Some n → n < 16
digit_small c n e = grind arith

digit_back : (n : ℕ) → n < 16 → digit (capital n) ≡ Some n
digit_back n h = grind arith

digits_back : (cs ns : List ℕ) → digit_pairs cs ≡ Some ns → (digit_pairs (map capital ns ++ 0 ∷ []) ≡ Some ns) × (suc (length ns) ≡ length cs)
unfolding digit_pairs
digits_back [] ns e = absurd cc
digits_back (c ∷ []) ns e =
    let (t, same) = where_some (eqb c 0) [] ns e in rw (← same) (refl, refl)
digits_back (c ∷ (d ∷ rest)) ns e =
    let (m, em, e₁) = then_some (digit c) (λ m. then (digit d) (λ n. also (digit_pairs rest) (λ ns. m ∷ (n ∷ ns)))) ns e in
    let (n, en, e₂) = then_some (digit d) (λ n. also (digit_pairs rest) (λ ns. m ∷ (n ∷ ns))) ns e₁ in
    let (ms, er, same) = also_some (digit_pairs rest) (λ ns. m ∷ (n ∷ ns)) ns e₂ in
    let (a, l) = digits_back rest ms er in
    rw (← same) (rw (digit_back m (digit_small c m em), digit_back n (digit_small d n en), a), ap (λ k. suc (suc k)) l)

-- Status.
abbrev made : (read modified submitted unsent attached : Bool) → Status
made r m s u a = record { read = r; modified = m; submitted = s; unsent = u; attached = a }

each_status : (r m s u a : Bool) → means rule.Status (normal (status (made r m s u a))) ≡ Some (status (made r m s u a))
unfolding means normal exactly le val
each_status true true true true true = refl
each_status true true true true false = refl
each_status true true true false true = refl
each_status true true true false false = refl
each_status true true false true true = refl
each_status true true false true false = refl
each_status true true false false true = refl
each_status true true false false false = refl
each_status true false true true true = refl
each_status true false true true false = refl
each_status true false true false true = refl
each_status true false true false false = refl
each_status true false false true true = refl
each_status true false false true false = refl
each_status true false false false true = refl
each_status true false false false false = refl
each_status false true true true true = refl
each_status false true true true false = refl
each_status false true true false true = refl
each_status false true true false false = refl
each_status false true false true true = refl
each_status false true false true false = refl
each_status false true false false true = refl
each_status false true false false false = refl
each_status false false true true true = refl
each_status false false true true false = refl
each_status false false true false true = refl
each_status false false true false false = refl
each_status false false false true true = refl
each_status false false false true false = refl
each_status false false false false true = refl
each_status false false false false false = refl

status_normal : (s : Status) → means rule.Status (normal (status s)) ≡ Some (status s)
status_normal s = each_status s.read s.modified s.submitted s.unsent s.attached

-- Numbers of two bytes.
priority_normal : (n : ℕ) → 1 ≤ n → n ≤ 3 → means rule.Priority (normal (importance (3 - n))) ≡ Some (importance (3 - n))
unfolding means normal
priority_normal n a b =
    let again : 3 - (3 - n) ≡ n = omega arith in
    rw (again, exactly_all 2 (le 2 n) (length_le 2 n), val_le 2 n (omega arith), le-leb 1 n a, le-leb n 3 b)

yes_normal : (b : Bool) → means rule.YesNo (normal (truth b)) ≡ Some (truth b)
unfolding means normal
yes_normal true = rw (exactly_all 2 (le 2 1) (length_le 2 1), val_le 2 1 (omega arith))
yes_normal false = rw (exactly_all 2 (le 2 0) (length_le 2 0), val_le 2 0 (omega arith))

-- Renderings and code pages.
rendering_at : (xs : List ℕ) (k p w h f : ℕ) → length xs ≡ 14 → val (part xs 0 2) ≡ k → val (part xs 2 4) ≡ p → val (part xs 6 2) ≡ w → val (part xs 8 2) ≡ h → val (part xs 10 4) ≡ f →
    (eqb k 1 || eqb k 2) ≡ true → leb f 1 ≡ true → means rule.Rendering xs ≡ Some (rendering k p w h f)
unfolding means
rendering_at xs k p w h f l a b c d e x y = rw (exactly_all 14 xs l, a, b, c, d, e, x, y)

rendering_normal : (k p w h f : ℕ) → k < 65536 → p < 256 ^ 4 → w < 65536 → h < 65536 → (eqb k 1 || eqb k 2) ≡ true → leb f 1 ≡ true →
    means rule.Rendering (normal (rendering k p w h f)) ≡ Some (rendering k p w h f)
unfolding normal le val part
rendering_normal k p w h f a b c d x y =
    let m = leb-true f 1 y in
    rendering_at (normal (rendering k p w h f)) k p w h f refl (omega arith) (omega arith) (omega arith) (omega arith) (omega arith) x y

page_at : (xs : List ℕ) (n : ℕ) → length xs ≡ 8 → val (part xs 0 4) ≡ n → means rule.CodePage xs ≡ Some (code_page n)
unfolding means
page_at xs n l a = rw (exactly_all 8 xs l, a)

page_normal : (n : ℕ) → n < 256 ^ 4 → means rule.CodePage (normal (code_page n)) ≡ Some (code_page n)
unfolding normal le val part
page_normal n a = page_at (normal (code_page n)) n refl (omega arith)

-- Under every rule; and normal data are longer than the data they come from by 64 bytes at most.
pub normal_means : (ρ : Rule) (d : List ℕ) (c : Contents) → Octets d → means ρ d ≡ Some c → (means ρ (normal c) ≡ Some c) × (length (normal c) ≤ length d + 64)
unfolding means normal
normal_means rule.Text d c o e =
    let (t, et, same) = also_some (before_zero d) text c e in
    let (n, is) = zero_gives d t et in
    rw (← same) (rw (zero_back t n), omega (arith, ap length is))
normal_means rule.Class d c o e =
    let (t, et, same) = also_some (before_zero d) class_of c e in
    let (n, is) = zero_gives d t et in
    let (a, b) = class_normal t c n same in
    (a, omega (arith, ap length is, length-append t (0 ∷ [])))
normal_means rule.Date d c o e =
    let (day, ed, same) = also_some (date_of d) date c e in
    let (ys, ey, e₁) = then_some (exactly 14 d) (λ ys. checked (date_in ys)) day ed in
    let (ok, is) = where_some (is_date (date_in ys)) (date_in ys) day e₁ in
    rw (← same, ← is) (rw (date_normal (date_in ys) ok), simp (length-append, length_le) (omega arith))
normal_means rule.Digits d c o e =
    let (ns, en, same) = also_some (digit_pairs d) digits c e in
    let (a, l) = digits_back d ns en in
    rw (← same) (rw a, omega (arith, length-append (map capital ns) (0 ∷ []), length-map ns capital))
normal_means rule.Status d c o e =
    let (s, es, same) = also_some (status_in d) status c e in
    rw (← same) (status_normal s, simp length_le (omega arith))
normal_means rule.Priority d c o e =
    let (i, ei, same) = also_some (importance_in d) importance c e in
    let (n, en, e₁) = then_some (number 2 d) ranked i ei in
    let (t, is) = where_some (leb 1 n && leb n 3) (3 - n) i e₁ in
    let (low, high) = and_parts _ _ t in
    rw (← same, ← is) (priority_normal n (leb-true 1 n low) (leb-true n 3 high), simp length_le (omega arith))
normal_means rule.YesNo d c o e =
    let (b, eb, same) = also_some (truth_in d) truth c e in
    rw (← same) (yes_normal b, simp length_le (omega arith))
normal_means rule.Raw d c o e = let same : raw d ≡ c = cc in rw (← same) (refl, omega arith)
normal_means rule.Rendering d c o e =
    let (ys, ey, e₁) = then_some (exactly 14 d) checked_rendering c e in
    let (t, same) = where_some (right_rendering ys) (rendering_in ys) c e₁ in
    let (kind, flat) = and_parts _ _ t in
    let (l, is) = exactly_some 14 d ys ey in
    let long : length ys ≡ 14 = sym (ap length is) ∙ l in
    let b : Octets ys = rw is at o in
    rw (← same) (
      rendering_normal _ _ _ _ _ (val_part ys 0 2 b (omega arith)) (val_part ys 2 4 b (omega arith)) (val_part ys 6 2 b (omega arith)) (val_part ys 8 2 b (omega arith)) kind flat,
      simp (length-append, length_le) (omega arith),
    )
normal_means rule.Version d c o e =
    let (t, same) = where_some (is_version d) version c e in
    rw (← same) (refl, omega arith)
normal_means rule.CodePage d c o e =
    let (n, en, same) = also_some (code_page_in d) code_page c e in
    let (ys, ey, is) = also_some (exactly 8 d) (λ ys. val (part ys 0 4)) n en in
    let (l, eq) = exactly_some 8 d ys ey in
    let long : length ys ≡ 8 = sym (ap length eq) ∙ l in
    let b : Octets ys = rw eq at o in
    rw (← same, ← is) (page_normal _ (val_part ys 0 4 b (omega arith)), simp (length-append, length_le) (omega arith))
normal_means rule.Recipients d c o e = absurd cc
normal_means rule.Properties d c o e = absurd cc

-- Admitted data mean something.
pub admitted : (ρ : Rule) (d : List ℕ) → admits ρ d ≡ true → (c : Contents) × (means ρ d ≡ Some c)
unfolding admits
admitted ρ d e = some_is (means ρ d) e

pub means_same : NormalMeansSame
unfolding admits
means_same ρ d o e =
    let (c, is) = admitted ρ d e in
    let same : means ρ (normal_data ρ d) ≡ Some c = rw is (normal_means ρ d c o is).0 in
    (rw same, same ∙ sym is)

pub decides : NormalDecides
decides ρ d e o p h k =
    (λ same. ap normal_of same, λ same. sym (means_same ρ d o h).1 ∙ ap (means ρ) same ∙ (means_same ρ e p k).1)
