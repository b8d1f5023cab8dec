-- What writers of normal data owe.
use Rattle.std.proofs.Common.{◌≡◌, ℕ, ◌+◌, ◌-◌, ◌≤◌, true, ◌&&◌, eqb, leb, ◌⊎◌, List, [], ◌∷◌, ◌++◌, map, length, Some, None, sym, refl, ap, ◌∙◌, inl, inr, arith, rules}
use Rattle.std.proofs.lemmas.Slice.Eq.{compares_Decides}
use Rattle.std.proofs.lemmas.Bool.{and_parts, eqb-true, leb-true}
use Rattle.source.specs.Bytes.{Octets, part, val, le, same_bytes}
use Rattle.pen.specs.Pen.{Wrote}
use Rattle.pen.specs.declared.Pen.{Pen}
use Rattle.scan.specs.Scans.{asked}
use Rattle.scan.specs.Texts.{also, before_zero}
use Rattle.scan.proofs.Parts.{asked_got, asked_within}
use Rattle.attribute.specs.declared.Rule.{Rule}
use Rattle.attribute.specs.declared.Rule.TheVariants as rule
use Rattle.contents.specs.Options.{then, exactly, number}
use Rattle.contents.specs.Classes.{pair_number, pair_of}
use Rattle.contents.specs.Digits.{digit, digit_pairs, capital}
use Rattle.contents.specs.Contents.{text, class_of, digits, version, importance, ranked, importance_in, right_rendering, rendering_in, checked_rendering, version_data, is_version, means, normal, normal_data, admits}
use Rattle.contents.specs.Writing.{Written, known, upper}
use Rattle.contents.proofs.LittleEndian.{octets_part, le_val, le_part, part_join, part_all}
use Rattle.contents.proofs.Normal.{zero_gives, admitted}
use Rattle.contents.proofs.Parts.{where_some, also_some, then_some, exactly_some}

-- A class that means no pair is a text, which means itself.
pub class_none : (xs : List ℕ) (place size : ℕ) → None ≡ known (asked pair_of xs place size) → {before after : Pen}
    → (place + size ≤ length xs → Wrote before (part xs place size) after) → Written rule.Class xs place size before after
unfolding means normal
class_none xs place size e p ok =
    let (l, a) = asked_got (admits rule.Class) xs place size true (sym ok) in
    let (c, is) = admitted rule.Class (part xs place size) (sym a) in
    let (t, et, same) = also_some (before_zero (part xs place size)) class_of c is in
    let none : None ≡ pair_number t = e ∙ ap known (asked_within pair_of xs place size l) ∙ ap (λ o. then o pair_number) et in
    rw (et, ← none, ← (zero_gives (part xs place size) t et).1) (p l)

-- Data that are their own normal data.
own_priority : (ys : List ℕ) → Octets ys → admits rule.Priority ys ≡ true → normal_data rule.Priority ys ≡ ys
unfolding means normal
own_priority ys o e =
    let (c, is) = admitted rule.Priority ys e in
    let (i, ei, same) = also_some (importance_in ys) importance c is in
    let (n, en, e₁) = then_some (number 2 ys) ranked i ei in
    let (t, eq) = where_some (leb 1 n && leb n 3) (3 - n) i e₁ in
    let (low, high) = and_parts (leb 1 n) (leb n 3) t in
    let (zs, ez, v) = also_some (exactly 2 ys) val n en in
    let (l, ys-zs) = exactly_some 2 ys zs ez in
    let back : 3 - i ≡ val ys = omega (arith, eq, leb-true n 3 high, v, ap val ys-zs) in
    rw (is, ← same, back) (ap (λ m. le m (val ys)) (sym l) ∙ le_val ys o)

five : (ys : List ℕ) → length ys ≡ 14 → part ys 0 2 ++ part ys 2 4 ++ part ys 6 2 ++ part ys 8 2 ++ part ys 10 4 ≡ ys
five ys l = rw (part_join ys 2 4, part_join ys 6 2, part_join ys 8 2, part_join ys 10 4) (part_all ys 14 l)

own_rendering : (ys : List ℕ) → Octets ys → admits rule.Rendering ys ≡ true → normal_data rule.Rendering ys ≡ ys
unfolding means normal
own_rendering ys o e =
    let (c, is) = admitted rule.Rendering ys e in
    let (zs, ez, e₁) = then_some (exactly 14 ys) checked_rendering c is in
    let (l, eq) = exactly_some 14 ys zs ez in
    let (t, same) = where_some (right_rendering zs) (rendering_in zs) c e₁ in
    let long : length zs ≡ 14 = sym (ap length eq) ∙ l in
    let b : Octets zs = rw eq at o in
    rw (is, ← same, le_part zs 0 2 b (omega arith), le_part zs 2 4 b (omega arith), le_part zs 6 2 b (omega arith), le_part zs 8 2 b (omega arith), le_part zs 10 4 b (omega arith))
    (five zs long ∙ sym eq)

own_normal : (ρ : Rule) → (ρ ≡ rule.Text) ⊎ ((ρ ≡ rule.Priority) ⊎ ((ρ ≡ rule.Raw) ⊎ ((ρ ≡ rule.Rendering) ⊎ (ρ ≡ rule.Version))))
    → (ys : List ℕ) → Octets ys → admits ρ ys ≡ true → normal_data ρ ys ≡ ys
unfolding means normal
own_normal ρ (inl e) ys o a =
    let (c, is) = admitted rule.Text ys (rw e at a) in
    let (t, et, same) = also_some (before_zero ys) text c is in
    rw (e, et) (sym (zero_gives ys t et).1)
own_normal ρ (inr (inl e)) ys o a = rw e (own_priority ys o (rw e at a))
own_normal ρ (inr (inr (inl e))) ys o a = rw e refl
own_normal ρ (inr (inr (inr (inl e)))) ys o a = rw e (own_rendering ys o (rw e at a))
own_normal ρ (inr (inr (inr (inr e)))) ys o a =
    let (c, is) = admitted rule.Version ys (rw e at a) in
    let t = (where_some (is_version ys) version c is).0 in
    rw (e, t) (sym ((compares_Decides same_bytes (search rules) ys version_data).0 t))

pub written_own : (ρ : Rule) (xs : List ℕ) (place size : ℕ) → (ρ ≡ rule.Text) ⊎ ((ρ ≡ rule.Priority) ⊎ ((ρ ≡ rule.Raw) ⊎ ((ρ ≡ rule.Rendering) ⊎ (ρ ≡ rule.Version)))) → Octets xs
    → {before after : Pen} → (place + size ≤ length xs → Wrote before (part xs place size) after) → Written ρ xs place size before after
written_own ρ xs place size is o p ok =
    let (l, a) = asked_got (admits ρ) xs place size true (sym ok) in
    rw (own_normal ρ is (part xs place size) (octets_part xs place size o) (sym a)) (p l)

-- Digits as capitals.
upper_digit : (c n : ℕ) → digit c ≡ Some n → upper c ≡ capital n
upper_digit c n e = grind arith

upper_pairs : (cs ns : List ℕ) → digit_pairs cs ≡ Some ns → map upper cs ≡ map capital ns ++ 0 ∷ []
unfolding digit_pairs
upper_pairs [] ns e = absurd cc
upper_pairs (c ∷ []) ns e =
    let (t, same) = where_some (eqb c 0) [] ns e in rw (← same, eqb-true c 0 t)
upper_pairs (c ∷ (d ∷ rest)) ns e =
    let (m, em, e₁) = then_some (digit c) (λ m. then (digit d) (λ n. also (digit_pairs rest) (λ ns. m ∷ (n ∷ ns)))) ns e in
    let (n, en, e₂) = then_some (digit d) (λ n. also (digit_pairs rest) (λ ns. m ∷ (n ∷ ns))) ns e₁ in
    let (ms, er, same) = also_some (digit_pairs rest) (λ ns. m ∷ (n ∷ ns)) ns e₂ in
    rw (← same, upper_digit c m em, upper_digit d n en, upper_pairs rest ms er)

digits_normal : (ys : List ℕ) → admits rule.Digits ys ≡ true → map upper ys ≡ normal_data rule.Digits ys
unfolding means normal
digits_normal ys e =
    let (c, is) = admitted rule.Digits ys e in
    let (ns, en, same) = also_some (digit_pairs ys) digits c is in
    rw (is, ← same) (upper_pairs ys ns en)

pub written_digits : (ρ : Rule) (xs : List ℕ) (place size : ℕ) → ρ ≡ rule.Digits
    → {before after : Pen} → (place + size ≤ length xs → Wrote before (map upper (part xs place size)) after) → Written ρ xs place size before after
written_digits ρ xs place size is p ok =
    let (l, a) = asked_got (admits rule.Digits) xs place size true (sym (rw is at ok)) in
    rw (is, ← digits_normal (part xs place size) (sym a)) (p l)
