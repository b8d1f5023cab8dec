-- The attribute that a call names, at each end of its checks.
use Rattle.std.proofs.Common.{◌≡◌, ℕ, Bool, true, false, not, eqb, Some, None, Ok, Option, unwrap_or, sym, refl, ap, ◌∙◌, inl, inr}
use Rattle.std.specs.Option.{option_eq}
use Rattle.std.proofs.lemmas.Bool.{cases_eq, both_ways, eqb-true, eq-eqb, ne_eqb}
use Rattle.source.specs.Outcome.{Outcome, ◌>>=◌, ◌>>◌, need, given, refused}
use Rattle.source.specs.declared.refusals.Reason.TheVariants.{Level, UnknownId, Misplaced}
use Rattle.source.proofs.Outcomes.{ok_same, need_got, bind_got, then_got}
use Rattle.attribute.specs.Table.{attributes, attribute_of}
use Rattle.attribute.specs.declared.Attribute.{Attribute}
use Rattle.attribute.specs.declared.Rule.{Rule}
use Rattle.attribute.specs.declared.Rule.TheVariants as rule
use Rattle.frame.proofs.Placing.{find_id}
use Rattle.stream.specs.Reading.{plain, nature}
use Rattle.form.proofs.Natures.{find_every}
use Rattle.message.specs.declared.Target.{Target}
use Rattle.lookup.proofs.Asked.{given_got}
use Rattle.editing.specs.Targets.{Use, use_of, may_put, may_drop, target_level, attribute_for}

module _ (t : Target) (i : ℕ) (may : Use → Bool) where
  pub unknown : None ≡ attribute_of i → refused UnknownId 0 ≡ attribute_for t i may
  unfolding attribute_for ◌>>=◌
  unknown e = rw (← e)

  module _ (a : Attribute) (known : Some a ≡ attribute_of i) where
    pub unlevel : (a.level ≡ target_level t → ⊥) → refused Level 0 ≡ attribute_for t i may
    unfolding attribute_for ◌>>=◌ ◌>>◌
    unlevel n = rw (← known, ne_eqb a.level (target_level t) n)

    pub barred : a.level ≡ target_level t → may (use_of a.rule) ≡ false → refused Misplaced 0 ≡ attribute_for t i may
    unfolding attribute_for ◌>>=◌ ◌>>◌
    barred l u = rw (← known, eq-eqb a.level (target_level t) l, u)

    pub named : a.level ≡ target_level t → may (use_of a.rule) ≡ true → Ok a ≡ attribute_for t i may
    unfolding attribute_for ◌>>=◌ ◌>>◌
    named l u = rw (← known, eq-eqb a.level (target_level t) l, u)

  -- What the comparison with the level that a target has, if it has one, says.
  module _ (o : Option ℕ) (a : Attribute) (has : unwrap_or o 0 ≡ target_level t) where
    pub level_other : Some a ≡ attribute_of i → true ≡ not (option_eq eqb o (Some a.level)) → a.level ≡ target_level t → ⊥
    unfolding attribute_of
    level_other k e l = by o has e
      where
        by : (o : Option ℕ) → unwrap_or o 0 ≡ target_level t → true ≡ not (option_eq eqb o (Some a.level)) → ⊥
        by None u e = both_ways (not (eqb a.level 0)) (ap not (eq-eqb a.level 0 (l ∙ sym u))) (find_every (λ b. not (eqb b.level 0)) attributes i a refl (sym k))
        by (Some n) u e = both_ways (not (eqb n a.level)) (ap not (eq-eqb n a.level (u ∙ sym l))) (sym e)

    pub level_same : false ≡ not (option_eq eqb o (Some a.level)) → a.level ≡ target_level t
    level_same e = by o has e
      where
        by : (o : Option ℕ) → unwrap_or o 0 ≡ target_level t → false ≡ not (option_eq eqb o (Some a.level)) → a.level ≡ target_level t
        by None u e = absurd (both_ways true (sym e) refl)
        by (Some n) u e = elim (cases_eq n a.level) [
          | inl d ↦ sym d ∙ u
          | inr k ↦ absurd (both_ways (not (eqb n a.level)) (sym e) (ap not (ne_eqb n a.level k)))
        ]

-- What an attribute that a call may name is.
pub record Named (t : Target) (i : ℕ) (may : Use → Bool) (a : Attribute) : Type 0 where
  pub known : attribute_of a.id ≡ Some a
  pub id : a.id ≡ i
  pub level : a.level ≡ target_level t
  pub allowed : may (use_of a.rule) ≡ true

pub named_is : (t : Target) (i : ℕ) (may : Use → Bool) (a : Attribute) → Ok a ≡ attribute_for t i may → Named t i may a
unfolding attribute_for attribute_of
named_is t i may a e =
    let last : Attribute → Outcome Attribute = λ b. need (may (use_of b.rule)) Misplaced 0 >> Ok b in
    let rest : Attribute → Outcome Attribute = λ b. need (eqb b.level (target_level t)) Level 0 >> last b in
    let (b, f, g) = bind_got (given (attribute_of i) UnknownId 0) rest a e in
    let (u, h, k) = then_got (need (eqb b.level (target_level t)) Level 0) (last b) a g in
    let (v, l, m) = then_got (need (may (use_of b.rule)) Misplaced 0) (Ok b) a k in
    let same : a ≡ b = ok_same a b m in
    let is : attribute_of i ≡ Some b = given_got (attribute_of i) UnknownId 0 b f in
    let id : b.id ≡ i = find_id attributes i b is in
    rw same (record {
      known = ap attribute_of id ∙ is;
      id = id;
      level = eqb-true _ _ (need_got _ _ _ u h);
      allowed = need_got _ _ _ v l;
    })

-- All that may be dropped is plain, and all that may be put but for the code page.
pub drop_plain : (r : Rule) → may_drop (use_of r) ≡ true → nature r ≡ plain
drop_plain rule.Text e = refl
drop_plain rule.Class e = refl
drop_plain rule.Date e = refl
drop_plain rule.Digits e = refl
drop_plain rule.Status e = refl
drop_plain rule.Priority e = refl
drop_plain rule.YesNo e = refl
drop_plain rule.Raw e = refl
drop_plain rule.Rendering e = refl
drop_plain rule.Version e = absurd (both_ways false refl e)
drop_plain rule.CodePage e = absurd (both_ways false refl e)
drop_plain rule.Recipients e = absurd (both_ways false refl e)
drop_plain rule.Properties e = absurd (both_ways false refl e)

pub put_plain : (r : Rule) → may_put (use_of r) ≡ true → (r ≡ rule.CodePage → ⊥) → nature r ≡ plain
put_plain rule.Text e n = refl
put_plain rule.Class e n = refl
put_plain rule.Date e n = refl
put_plain rule.Digits e n = refl
put_plain rule.Status e n = refl
put_plain rule.Priority e n = refl
put_plain rule.YesNo e n = refl
put_plain rule.Raw e n = refl
put_plain rule.Rendering e n = refl
put_plain rule.Version e n = absurd (both_ways false refl e)
put_plain rule.CodePage e n = absurd (n refl)
put_plain rule.Recipients e n = absurd (both_ways false refl e)
put_plain rule.Properties e n = absurd (both_ways false refl e)
