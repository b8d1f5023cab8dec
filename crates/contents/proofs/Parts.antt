-- Readings that did not fail, and parts of a fixed size.
use Rattle.std.proofs.Common.{◌≡◌, ℕ, ◌+◌, ◌*◌, ◌<◌, ◌≤◌, Bool, true, false, ◌&&◌, ◌||◌, eqb, leb, List, [], ◌∷◌, ◌++◌, length, get_or, take, drop, is_some, Some, None, Ok, Option, sym, refl, ap, ◌∙◌, add-zero, arith, rules}
use lib.Pointwise.{pointwise}
use Rattle.std.specs.Option.{option_eq}
use borrow.Rule.Slice.PartMut.{post_of}
use Rattle.std.proofs.lemmas.List.{get_or-take, get_or-drop}
use Rattle.std.proofs.lemmas.Slice.Eq.{compares_Decides}
use Rattle.std.proofs.lemmas.Bool.{eqb-true, eq-eqb}
use Rattle.source.specs.Bytes.{part, val, same_bytes}
use Rattle.scan.specs.Scans.{asked}
use Rattle.scan.specs.Texts.{also}
use Rattle.scan.proofs.Numbers.{length_part, val_two, val_four}
use Rattle.scan.proofs.Parts.{asked_within}
use Rattle.contents.specs.Calendar.{word}
use Rattle.contents.specs.Contents.{right_rendering, version_data, is_version}
use Rattle.contents.specs.Options.{where_true, then, exactly, number}

pub some_is : {A : Type 0} (o : Option A) → is_some o ≡ true → (a : A) × (o ≡ Some a)
some_is (Some a) e = (a, refl)
some_is None e = absurd cc

pub none_unless : {A : Type 0} (o : Option A) → ((a : A) → o ≡ Some a → ⊥) → o ≡ None
none_unless (Some a) h = absurd (h a refl)
none_unless None h = refl

pub where_some : {A : Type 0} (b : Bool) (a c : A) → where_true b a ≡ Some c → (b ≡ true) × (a ≡ c)
where_some true a c e = (refl, cc)
where_some false a c e = absurd cc

pub also_some : {A B : Type 0} (o : Option A) (f : A → B) (b : B) → also o f ≡ Some b → (a : A) × (o ≡ Some a) × (f a ≡ b)
also_some (Some a) f b e = (a, refl, cc)
also_some None f b e = absurd cc

pub then_some : {A B : Type 0} (o : Option A) (f : A → Option B) (b : B) → then o f ≡ Some b → (a : A) × (o ≡ Some a) × (f a ≡ Some b)
then_some (Some a) f b e = (a, refl, e)
then_some None f b e = absurd cc

pub exactly_some : (n : ℕ) (xs ys : List ℕ) → exactly n xs ≡ Some ys → (length xs ≡ n) × (xs ≡ ys)
unfolding exactly
exactly_some n xs ys e = let (t, same) = where_some (eqb (length xs) n) xs ys e in (eqb-true (length xs) n t, same)

pub exactly_all : (n : ℕ) (xs : List ℕ) → length xs ≡ n → exactly n xs ≡ Some xs
unfolding exactly
exactly_all n xs e = rw (eq-eqb (length xs) n e)

-- Fewer bytes than four, and zeros behind them, as a number.
abbrev zeros : List ℕ
zeros = 0 ∷ (0 ∷ (0 ∷ (0 ∷ [])))

padded_val : (bs : List ℕ) → length bs ≤ 4
    → get_or (bs ++ post_of 0 (length bs) zeros) 0 0 + get_or (bs ++ post_of 0 (length bs) zeros) 1 0 * 256 + get_or (bs ++ post_of 0 (length bs) zeros) 2 0 * 65536
    + get_or (bs ++ post_of 0 (length bs) zeros) 3 0 * 16777216 ≡ val bs
unfolding val
padded_val [] h = omega arith
padded_val (a ∷ []) h = omega arith
padded_val (a ∷ (b ∷ [])) h = omega arith
padded_val (a ∷ (b ∷ (c ∷ []))) h = omega arith
padded_val (a ∷ (b ∷ (c ∷ (d ∷ [])))) h = omega arith
padded_val (a ∷ (b ∷ (c ∷ (d ∷ (e ∷ bs))))) h = absurd (omega arith)

pub number_fetched : (xs bytes : List ℕ) (place size m width k : ℕ) → place + size ≤ length xs → size ≡ width → m ≡ width → width ≤ 4 → bytes ≡ take m (drop place xs)
    → k ≡ get_or (bytes ++ post_of 0 width zeros) 0 0 + get_or (bytes ++ post_of 0 width zeros) 1 0 * 256 + get_or (bytes ++ post_of 0 width zeros) 2 0 * 65536
    + get_or (bytes ++ post_of 0 width zeros) 3 0 * 16777216
    → Ok (Some k) ≡ asked (number width) xs place size
unfolding part
number_fetched xs bytes place size m width k l s e h b n =
    let same : bytes ≡ part xs place size = b ∙ ap (λ k. take k (drop place xs)) (e ∙ sym s) in
    let long : length bytes ≡ width = ap length same ∙ length_part xs place size l ∙ s in
    let v : k ≡ val (part xs place size) = n ∙ (rw long at (padded_val bytes (omega (arith, long)))) ∙ ap val same in
    let all = exactly_all width (part xs place size) (length_part xs place size l ∙ s) in
    ap (λ m. Ok (Some m)) v ∙ ap (λ o. Ok (also o val)) (sym all) ∙ sym (asked_within (number width) xs place size l)

get_d_part : (xs : List ℕ) (p n i : ℕ) → i < n → get_or (part xs p n) i 0 ≡ get_or xs (p + i) 0
unfolding part
get_d_part xs p n i h = rw (get_or-take, get_or-drop)

pub word_is : (xs : List ℕ) (k : ℕ) → 2 * k + 1 < length xs → get_or xs (2 * k) 0 + get_or xs (2 * k + 1) 0 * 256 ≡ word xs k
word_is xs k h = grind (arith, val_two, length_part, get_d_part, add-zero)

quad_is : (xs : List ℕ) (p : ℕ) → p + 4 ≤ length xs → get_or xs (p + 0) 0 + get_or xs (p + 1) 0 * 256 + get_or xs (p + 2) 0 * 65536 + get_or xs (p + 3) 0 * 16777216 ≡ val (part xs p 4)
quad_is xs p h = grind (arith, val_four, length_part, get_d_part)

pub rendering_tests : (b : List ℕ) (k f : ℕ) → length b ≡ 14 → k ≡ get_or b 0 0 + get_or b 1 0 * 256
    → f ≡ get_or b 10 0 + get_or b 11 0 * 256 + get_or b 12 0 * 65536 + get_or b 13 0 * 16777216
    → ((eqb k 1 || eqb k 2) && leb f 1) ≡ right_rendering b
rendering_tests b k f l e g = rw (e ∙ word_is b 0 (omega arith), g ∙ quad_is b 10 (omega arith))

-- Bytes of another number than the version's.
pub same_length : (xs ys : List ℕ) → same_bytes xs ys ≡ true → length xs ≡ length ys
same_length xs ys e = ap length ((compares_Decides same_bytes (search rules) xs ys).0 e)

pub version_read : (ys : List ℕ) → option_eq (pointwise eqb) (exactly 4 ys) (Some version_data) ≡ is_version ys
unfolding exactly
version_read [] = refl
version_read (a ∷ []) = grind arith
version_read (a ∷ (b ∷ [])) = grind arith
version_read (a ∷ (b ∷ (c ∷ []))) = grind arith
version_read (a ∷ (b ∷ (c ∷ (d ∷ [])))) = refl
version_read (a ∷ (b ∷ (c ∷ (d ∷ (e ∷ ys))))) = grind arith
