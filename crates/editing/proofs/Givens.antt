-- What is known where an edit's checks passed.
use Rattle.std.proofs.Common.{◌≡◌, ℕ, ◌+◌, ◌≤◌, Bool, true, ◌&&◌, eqb, List, [], ◌∷◌, length, Some, Ok, Option, sym, ap, ◌∙◌, inl, inr, arith}
use Rattle.std.proofs.lemmas.List.{take_all}
use Rattle.std.proofs.lemmas.Bool.{eqb-true, leb-true, and_parts, cases_Bool}
use Rattle.source.specs.Bytes.{Octets, part}
use Rattle.source.specs.Content.{source_limit}
use Rattle.source.specs.Outcome.{Outcome, ◌>>=◌, given}
use Rattle.source.specs.declared.refusals.Reason.{Reason}
use Rattle.attribute.specs.Table.{attribute_of, attributes, find}
use Rattle.attribute.specs.declared.Attribute.{Attribute}
use Rattle.attribute.specs.declared.Rule.{Rule}
use Rattle.contents.specs.Contents.{Contents, means}
use Rattle.property.specs.Lists.{Property, one_property}
use Rattle.message.specs.declared.Target.{Target}
use Rattle.message.specs.Grammar.{property_bytes}
use Rattle.message.proofs.Outcomes.{bind_ok, need_ok, given_ok}
use Rattle.message.proofs.PropertyReads.{property_told}
use Rattle.message.proofs.Rewrites.{ToldBy}
use Rattle.editing.specs.Targets.{target_level, Use, use_of, attribute_for}
use Rattle.editing.specs.Edits.{held, given_contents, given_property}

pub given_then : {A B : Type 0} (o : Option A) (r : Reason) (p : ℕ) (next : A → Outcome B) (b : B) → (given o r p >>= next) ≡ Ok b → (a : A) × (o ≡ Some a) × (next a ≡ Ok b)
given_then o r p next b e = let (a, is, e₁) = bind_ok _ _ _ e in (a, given_ok o r p a is, e₁)

held_ok : (xs ys : List ℕ) → held xs ≡ Ok ys → (xs ≡ ys) × (length xs ≤ source_limit)
unfolding held
held_ok xs ys e = let (t, e₁) = need_ok _ _ _ _ _ e in (cc, leb-true _ _ t)

pub contents_ok : (r : Rule) (xs : List ℕ) (c : Contents) → given_contents r xs ≡ Ok c → means r xs ≡ Some c
unfolding given_contents
contents_ok r xs c e =
    let (ys, h, e₁) = bind_ok _ _ _ e in
    ap (means r) (held_ok xs ys h).0 ∙ given_ok _ _ _ c e₁

whole : (xs : List ℕ) → part xs 0 (length xs) ≡ xs
unfolding part
whole xs = take_all (length xs) xs (omega arith)

-- A property that was given stands in its bytes.
pub property_ok : (xs : List ℕ) (p : Property) → Octets xs → given_property xs ≡ Ok p → ToldBy property_bytes p
unfolding given_property
property_ok xs p o e =
    let (ys, h, e₁) = bind_ok _ _ _ e in
    let same : xs ≡ ys = (held_ok xs ys h).0 in
    let read : one_property xs 0 (0 + length xs) ≡ Ok p = let long : 0 + length xs ≡ length xs = omega arith in rw (long, same) e₁ in
    (xs, o, rw (whole xs) at ((property_told xs 0 (length xs) p (omega arith)).0 read))

pub attribute_ok : (t : Target) (i : ℕ) (may : Use → Bool) (a : Attribute) → attribute_for t i may ≡ Ok a
    → (attribute_of i ≡ Some a) × (a.level ≡ target_level t) × (may (use_of a.rule) ≡ true)
unfolding attribute_for
attribute_ok t i may a q =
    let (d, is, q₁) = given_then _ _ _ _ _ q in
    let (lev, q₂) = need_ok _ _ _ _ _ q₁ in
    let (may', q₃) = need_ok _ _ _ _ _ q₂ in
    let same : d ≡ a = cc in
    (is ∙ ap Some same, ap (λ x. x.level) (sym same) ∙ eqb-true d.level (target_level t) lev, ap (λ x. may (use_of x.rule)) (sym same) ∙ may')

-- A test that every attribute of the table passes.
abbrev pub passes : (Attribute → Bool) → List Attribute → Bool
passes test [] = true
passes test (a ∷ rest) = test a && passes test rest

find_passes : (test : Attribute → Bool) (ls : List Attribute) (i : ℕ) (a : Attribute) → passes test ls ≡ true → find ls i ≡ Some a → test a ≡ true
find_passes test [] i a all e = absurd (let z : ◌≡◌ {A = ℕ} 0 1 = cc in omega arith)
find_passes test (b ∷ ls) i a all e =
    let (here, later) = and_parts (test b) (passes test ls) all in
    elim (cases_Bool (eqb b.id i)) [
      | inl t ↦ let found : Some b ≡ Some a = rw t at e in let same : b ≡ a = cc in rw (← same) here
      | inr f ↦ find_passes test ls i a later (rw f at e)
    ]

pub attribute_passes : (test : Attribute → Bool) (i : ℕ) (a : Attribute) → passes test attributes ≡ true → attribute_of i ≡ Some a → test a ≡ true
unfolding attribute_of
attribute_passes test i a all e = find_passes test attributes i a all e
