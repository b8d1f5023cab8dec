-- Values that were read, as they are written from their places.
use Rattle.std.proofs.Common.{◌≡◌, ℕ, ◌+◌, ◌-◌, ◌≤◌, Bool, true, false, cond, not, eqb, leb, List, ◌++◌, length, replicate, Some, None, Ok, Option, sym, refl, ap, ◌∙◌, arith}
use Rattle.std.proofs.lemmas.Bool.{leb-true}
use Rattle.source.specs.Bytes.{part, val, le}
use Rattle.source.specs.Outcome.{Outcome, ◌>>=◌, ◌>>◌, need}
use Rattle.source.specs.declared.refusals.Reason.TheVariants.{FieldEnd, FieldRule}
use Rattle.source.proofs.Outcomes.{ok_same, need_got, bind_got, then_got, over_got}
use Rattle.scan.proofs.Numbers.{length_part}
use Rattle.property.specs.declared.kinds.Kind.{Kind}
use Rattle.property.specs.declared.kinds.Kind.TheVariants.{Fixed, YesNo, String8, String16, Binary, Object}
use Rattle.property.specs.declared.kinds.Shape.{Shape}
use Rattle.property.specs.Fields.{At, at, padded, filled, repeated, field, number_at, sized}
use Rattle.property.specs.Kinds.{Value, value, normal, admits, width}
use Rattle.property.specs.Values.{fixed_value, sized_value, fixed_values, sized_values, values_of, values_at}
use Rattle.property.specs.Writing.{write_fixed, write_sized, write_values}
use Rattle.listform.specs.Forms.{number_there, fixed_form, fixed_next, sized_form, sized_next, values_form, ValuesFit}
use Rattle.listform.proofs.WalkSteps.{repeated_length, walks}

-- Values of a width: yes or no, and bytes that are kept.
module _ (ys : List ℕ) where
  pub normal_flag : (k : Kind) → k ≡ YesNo → normal (value k ys) ≡ le 2 (cond (not (eqb (val ys) 0)) 1 0)
  normal_flag k e = rw e

  pub normal_bytes : (k : Kind) → (k ≡ YesNo → ⊥) → normal (value k ys) ≡ ys
  normal_bytes (Fixed w) other = refl
  normal_bytes YesNo other = absurd (other refl)
  normal_bytes String8 other = refl
  normal_bytes String16 other = refl
  normal_bytes Binary other = refl
  normal_bytes Object other = refl

pub two_wide : (k : Kind) (w : ℕ) → k ≡ YesNo → width k ≡ Some w → w ≡ 2
two_wide k w e f =
    let two : ◌≡◌ {A = Option ℕ} (Some 2) (Some w) = rw e at f in
    cc

length_flag : (n : ℕ) → length (le 2 n) ≡ 2
unfolding le
length_flag n = refl

length_normal : (k : Kind) (w : ℕ) (ys : List ℕ) → width k ≡ Some w → length ys ≡ w → length (normal (value k ys)) ≡ w
length_normal (Fixed n) w ys e l = l
length_normal YesNo w ys e l = length_flag _ ∙ sym (two_wide YesNo w refl e)
length_normal String8 w ys e l = l
length_normal String16 w ys e l = l
length_normal Binary w ys e l = l
length_normal Object w ys e l = l

-- A value and zeros for its padding.
pub fixed_filled : (xs : List ℕ) (k : Kind) (w p n : ℕ) → width k ≡ Some w → p + w ≤ length xs → n ≡ padded w - w
    → fixed_form xs k w p ≡ normal (value k (part xs p w)) ++ replicate n 0
unfolding fixed_form filled
fixed_filled xs k w p n e h f = rw (length_normal k w (part xs p w) e (length_part xs p w h), f)

-- A kind without a width keeps its bytes.
sized_plain : (k : Kind) (ys : List ℕ) → width k ≡ None → normal (value k ys) ≡ ys
sized_plain k ys e = normal_bytes ys k (λ y. let f : ◌≡◌ {A = Option ℕ} (Some 2) None = rw y at e in let z : ◌≡◌ {A = ℕ} 0 1 = cc in omega arith)

module _ (xs : List ℕ) (end start : ℕ) where
  pub number_in : (p n : ℕ) → Ok n ≡ number_at xs end start p 4 → (p + 4 ≤ end) × (number_there xs p ≡ n)
  unfolding number_at field number_there ◌>>◌
  number_in p n e =
      let (bs, f, same) = over_got val (field xs end start p 4) n e in
      let (u, t, g) = then_got (need (leb (p + 4) end) FieldEnd start) (Ok (part xs p 4)) bs f in
      (leb-true (p + 4) end (need_got _ _ _ u t), sym (same ∙ ap val (ok_same _ _ g)))

  pub sized_in : (p : ℕ) (s : At (List ℕ)) → Ok s ≡ sized xs end start p
      → (s ≡ at (part xs (p + 4) (number_there xs p)) (sized_next xs p)) × (sized_next xs p ≤ end)
  unfolding sized ◌>>=◌ ◌>>◌
  sized_in p s e =
      let rest : ℕ → Outcome (At (List ℕ)) = λ n. need (leb (p + 4 + padded n) end) FieldEnd start >> Ok (at (part xs (p + 4) n) (p + 4 + padded n)) in
      let (n, f, g) = bind_got (number_at xs end start p 4) rest s e in
      let (u, t, h) = then_got (need (leb (p + 4 + padded n) end) FieldEnd start) (Ok (at (part xs (p + 4) n) (p + 4 + padded n))) s g in
      let same = (number_in p n f).1 in
      rw same (ok_same _ _ h, leb-true (p + 4 + padded n) end (need_got _ _ _ u t))

  pub fixed_in : (k : Kind) (w p : ℕ) (a : At Value) → Ok a ≡ fixed_value xs end start k w p
      → (a ≡ at (value k (part xs p w)) (p + padded w)) × (p + padded w ≤ end)
  unfolding fixed_value ◌>>◌
  fixed_in k w p a e =
      let (u, t, h) = then_got (need (leb (p + padded w) end) FieldEnd start) (Ok (at (value k (part xs p w)) (p + padded w))) a e in
      (ok_same _ _ h, leb-true (p + padded w) end (need_got _ _ _ u t))

  pub value_in : (k : Kind) (p : ℕ) (a : At Value) → Ok a ≡ sized_value xs end start k p
      → (a ≡ at (value k (part xs (p + 4) (number_there xs p))) (sized_next xs p)) × (sized_next xs p ≤ end)
  unfolding sized_value ◌>>=◌ ◌>>◌
  value_in k p a e =
      let rest : At (List ℕ) → Outcome (At Value) = λ s. need (admits k s.what) FieldRule start >> Ok (at (value k s.what) s.next) in
      let (s, f, g) = bind_got (sized xs end start p) rest a e in
      let (u, t, h) = then_got (need (admits k s.what) FieldRule start) (Ok (at (value k s.what) s.next)) a g in
      let (same, fits) = sized_in p s f in
      (ok_same _ _ h ∙ ap (λ (s : At (List ℕ)). at (value k s.what) s.next) same, fits)

  module _ (l : end ≤ length xs) where
    fixed_step : (k : Kind) (w p : ℕ) (a : At Value) → Ok a ≡ fixed_value xs end start k w p
        → (fixed_form xs k w p ≡ write_fixed a.what) × (fixed_next w p ≡ a.next) × (fixed_next w p ≤ length xs)
    unfolding fixed_form
    fixed_step k w p a e =
        let (same, fits) = fixed_in k w p a e in
        (sym (ap (λ (a : At Value). write_fixed a.what) same), sym (ap (λ (a : At Value). a.next) same), omega arith)

    sized_step : (k : Kind) → width k ≡ None → (p : ℕ) (a : At Value) → Ok a ≡ sized_value xs end start k p
        → (sized_form xs p ≡ write_sized a.what) × (sized_next xs p ≡ a.next) × (sized_next xs p ≤ length xs)
    unfolding sized_form
    sized_step k w p a e =
        let (same, fits) = value_in k p a e in
        let n : length (part xs (p + 4) (number_there xs p)) ≡ number_there xs p = length_part xs (p + 4) (number_there xs p) (omega arith) in
        let plain : normal a.what ≡ part xs (p + 4) (number_there xs p) = ap (λ (a : At Value). normal a.what) same ∙ sized_plain k _ w in
        (rw (plain, n), sym (ap (λ (a : At Value). a.next) same), omega arith)

    -- The values of a width, or without one.
    values_in : (o : Option ℕ) (k : Kind) (several : Bool) (p : ℕ) (a : At (List Value)) → width k ≡ o → Ok a ≡ values_of xs end start o k several p
        → ValuesFit xs o several p × (values_form xs o k several p ≡ write_values o several a.what)
    unfolding fixed_values sized_values values_form ValuesFit write_values ◌>>=◌ ◌>>◌
    values_in (Some w) k false p a e h = walks _ write_fixed (fixed_form xs k w) (fixed_next w) (length xs) (fixed_step k w) 1 p a h
    values_in (Some w) k true p a e h =
        let (n, f, g) = bind_got (number_at xs end start p 4) (λ n. repeated (fixed_value xs end start k w) n (p + 4)) a h in
        let (fits, same) = number_in p n f in
        let (within, all) = walks _ write_fixed (fixed_form xs k w) (fixed_next w) (length xs) (fixed_step k w) n (p + 4) a g in
        rw (same, repeated_length _ n (p + 4) a g) ((omega arith, within), ap (λ l. le 4 n ++ l) all)
    values_in None k several p a e h =
        let go : ℕ → Outcome (At (List Value)) = λ n. repeated (sized_value xs end start k) n (p + 4) in
        let (n, f, g) = bind_got (number_at xs end start p 4) (λ n. need (cond several (leb 1 n) (eqb n 1)) FieldRule start >> go n) a h in
        let (u, t, r) = then_got (need (cond several (leb 1 n) (eqb n 1)) FieldRule start) (go n) a g in
        let (fits, same) = number_in p n f in
        let (within, all) = walks _ write_sized (sized_form xs) (sized_next xs) (length xs) (sized_step k e) n (p + 4) a r in
        rw (same, repeated_length _ n (p + 4) a r) ((omega arith, within), ap (λ l. le 4 n ++ l) all)

    pub shape_in : (s : Shape) (p : ℕ) (a : At (List Value)) → Ok a ≡ values_at xs end start s p
        → ValuesFit xs (width s.kind) s.several p × (values_form xs (width s.kind) s.kind s.several p ≡ write_values (width s.kind) s.several a.what)
    unfolding values_at
    shape_in s p a h = values_in (width s.kind) s.kind s.several p a refl h
