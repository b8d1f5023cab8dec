-- The values of a property that a row carries.
use Rattle.std.proofs.Common.{◌≡◌, ℕ, zero, suc, ◌+◌, ◌*◌, ◌<◌, ◌≤◌, Bool, true, false, cond, eqb, leb, List, length, Some, None, Ok, sym, refl, ap, ◌∙◌, suc-mul, zero-mul, arith}
use Rattle.source.specs.Bytes.{part, val}
use Rattle.source.specs.Outcome.{Outcome, ◌>>=◌, ◌>>◌, need, given}
use Rattle.source.specs.declared.refusals.Reason.TheVariants.{FieldRule}
use Rattle.source.proofs.Outcomes.{ok_same, bind_got, then_got}
use Rattle.index.specs.Keys.{key_of}
use Rattle.index.specs.declared.properties.PropertyRow.{PropertyRow}
use Rattle.property.specs.declared.kinds.Kind.{Kind}
use Rattle.property.specs.declared.kinds.Shape.{Shape}
use Rattle.property.specs.Fields.{At, at, padded, repeated, number_at}
use Rattle.property.specs.Kinds.{Value, value, width, shape_of}
use Rattle.property.specs.Lists.{Property, property_from}
use Rattle.property.specs.Rows.{Carries}
use Rattle.property.specs.Values.{fixed_value, fixed_values, sized_value, sized_values, values_of, values_at}
use Rattle.message.specs.Sameness.{nth}
use Rattle.listform.specs.Forms.{number_there, sized_next}
use Rattle.listform.proofs.ValueForms.{number_in, fixed_in, value_in}
use Rattle.listform.proofs.WalkSteps.{repeated_first, repeated_length}
use Rattle.lookup.specs.Listing.{Reaches}
use Rattle.lookup.proofs.Asked.{given_got}
use Rattle.lookup.proofs.Reaching.{nth_drop, reach_first}

-- What a row that carries a property says.
pub record Said (xs : List ℕ) (end : ℕ) (row : PropertyRow) (p : Property) : Type 0 where
  pub start : ℕ
  pub shape : Shape
  pub read : At (List Value)
  pub shaped : shape_of row.number ≡ Some shape
  pub reads : values_at xs end start shape row.values ≡ Ok read
  pub values : p.values ≡ read.what
  pub type : p.type ≡ row.number

pub said : (xs : List ℕ) (end : ℕ) (row : PropertyRow) (p : Property) → Carries xs end row p → Said xs end row p
unfolding property_from ◌>>=◌
said xs end row p (start, e) =
    let last : At (List Value) → Outcome (At Property) = λ v. Ok (at (record { key = key_of row.key; type = row.number; values = v.what }) v.next) in
    let rest : Shape → Outcome (At Property) = λ s. values_at xs end start s row.values >>= last in
    let (s, f, g) = bind_got (given (shape_of row.number) FieldRule start) rest (at p row.next) (sym e) in
    let (v, h, k) = bind_got (values_at xs end start s row.values) last (at p row.next) g in
    let same : at p row.next ≡ at (record { key = key_of row.key; type = row.number; values = v.what }) v.next = ok_same _ _ k in
    record {
      start = start;
      shape = s;
      read = v;
      shaped = given_got (shape_of row.number) FieldRule start s f;
      reads = sym h;
      values = ap (λ (a : At Property). a.what.values) same;
      type = ap (λ (a : At Property). a.what.type) same;
    }

-- The same, for the shape of its type.
pub said_as : (xs : List ℕ) (end : ℕ) (row : PropertyRow) (p : Property) → Carries xs end row p → (h : Shape) → Some h ≡ shape_of row.number
    → (start : ℕ) × (a : At (List Value)) × (values_at xs end start h row.values ≡ Ok a) × (p.values ≡ a.what) × (shape_of p.type ≡ Some h)
said_as xs end row p c h e =
    let s = said xs end row p c in
    let f : Some h ≡ Some s.shape = e ∙ s.shaped in
    let same : h ≡ s.shape = cc in
    (s.start, s.read, ap (λ t. values_at xs end s.start t row.values) same ∙ s.reads, s.values, ap shape_of s.type ∙ sym e)

pub unshaped : (xs : List ℕ) (end : ℕ) (row : PropertyRow) (p : Property) → Carries xs end row p → None ≡ shape_of row.number → ⊥
unshaped xs end row p c e =
    let s = said xs end row p c in
    let f : None ≡ Some s.shape = e ∙ s.shaped in
    let z : ◌≡◌ {A = ℕ} 0 1 = cc in
    omega arith

module _ (xs : List ℕ) (end start : ℕ) (l : end ≤ length xs) where
  -- The value with a number, of values of a width.
  pub fixed_nth : (k : Kind) (w n p : ℕ) (a : At (List Value)) (i : ℕ) → Ok a ≡ repeated (fixed_value xs end start k w) n p → i < n
      → (p + i * padded w + w ≤ length xs) × (nth a.what i ≡ Some (value k (part xs (p + i * padded w) w)))
  fixed_nth k w zero p a i e h = absurd (omega arith)
  fixed_nth k w (suc n) p a zero e h =
      let (b, rest, f, g, s) = repeated_first (fixed_value xs end start k w) (suc n) n p a refl e in
      let (same, fits) = fixed_in xs end start k w p b f in
      let z : p + 0 * padded w ≡ p = omega (arith, zero-mul (padded w)) in
      (omega arith, rw z (ap (λ (x : At (List Value)). nth x.what 0) s ∙ ap (λ (x : At Value). Some x.what) same))
  fixed_nth k w (suc n) p a (suc i) e h =
      let (b, rest, f, g, s) = repeated_first (fixed_value xs end start k w) (suc n) n p a refl e in
      let (same, fits) = fixed_in xs end start k w p b f in
      let next : b.next ≡ p + padded w = ap (λ (x : At Value). x.next) same in
      let m : b.next + i * padded w ≡ p + suc i * padded w = omega (arith, suc-mul i (padded w)) in
      let (u, v) = fixed_nth k w n b.next rest i g (omega arith) in
      (omega arith, ap (λ (x : At (List Value)). nth x.what (suc i)) s ∙ rw (← m) v)

  module _ (k : Kind) (w p : ℕ) (a : At (List Value)) where
    pub fixed_only : (several : Bool) → several ≡ false → fixed_values xs end start k w several p ≡ Ok a → (p + w ≤ length xs) × (nth a.what 0 ≡ Some (value k (part xs p w))) × (length a.what ≡ 1)
    unfolding fixed_values
    fixed_only several f e =
        let r : repeated (fixed_value xs end start k w) 1 p ≡ Ok a = rw f at e in
        let (u, v) = fixed_nth k w 1 p a 0 (sym r) (omega arith) in
        let z : p + 0 * padded w ≡ p = omega (arith, zero-mul (padded w)) in
        (omega arith, (rw z at v), repeated_length (fixed_value xs end start k w) 1 p a (sym r))

    pub fixed_all : (several : Bool) → several ≡ true → fixed_values xs end start k w several p ≡ Ok a
        → (p + 4 ≤ length xs) × (length a.what ≡ val (part xs p 4)) × (Ok a ≡ repeated (fixed_value xs end start k w) (val (part xs p 4)) (p + 4))
    unfolding fixed_values number_there
    fixed_all several t e =
        let go : ℕ → Outcome (At (List Value)) = λ n. repeated (fixed_value xs end start k w) n (p + 4) in
        let r : (number_at xs end start p 4 >>= go) ≡ Ok a = rw t at e in
        let (n, f, g) = bind_got (number_at xs end start p 4) go a (sym r) in
        let (fits, same) = number_in xs end start p n f in
        rw same (omega arith, repeated_length (fixed_value xs end start k w) n (p + 4) a g, g)

  pub sized_all : (k : Kind) (several : Bool) (p : ℕ) (a : At (List Value)) → sized_values xs end start k several p ≡ Ok a
      → (p + 4 ≤ length xs) × (length a.what ≡ val (part xs p 4)) × (Ok a ≡ repeated (sized_value xs end start k) (val (part xs p 4)) (p + 4))
  unfolding sized_values number_there
  sized_all k several p a e =
      let go : ℕ → Outcome (At (List Value)) = λ n. repeated (sized_value xs end start k) n (p + 4) in
      let test : ℕ → Outcome (Unit {0}) = λ n. need (cond several (leb 1 n) (eqb n 1)) FieldRule start in
      let (n, f, g) = bind_got (number_at xs end start p 4) (λ n. test n >> go n) a (sym e) in
      let (u, t, r) = then_got (test n) (go n) a g in
      let (fits, same) = number_in xs end start p n f in
      rw same (omega arith, repeated_length (sized_value xs end start k) n (p + 4) a r, r)

  -- The place behind a value, and the value with a number, of values that stand behind their sizes.
  pub value_next : (k : Kind) (p : ℕ) (b : At Value) → sized_value xs end start k p ≡ Ok b → (sized_next xs p ≡ b.next) × (p + 4 ≤ length xs)
  value_next k p b e =
      let (same, fits) = value_in xs end start k p b (sym e) in
      (sym (ap (λ (x : At Value). x.next) same), omega arith)

  pub sized_nth : (k : Kind) (n p q i : ℕ) (a : At (List Value)) → Reaches (sized_value xs end start k) i p q → repeated (sized_value xs end start k) n p ≡ Ok a → i < n
      → (q + 4 + val (part xs q 4) ≤ length xs) × (nth a.what i ≡ Some (value k (part xs (q + 4) (val (part xs q 4)))))
  unfolding number_there
  sized_nth k n p q i a r e h =
      let (b, rest, is, w, _) = reach_first (sized_value xs end start k) i p q n a r h e in
      let (same, fits) = value_in xs end start k q b (sym is) in
      (omega arith, nth_drop a.what i b.what rest w ∙ ap (λ (x : At Value). Some x.what) same)

  pub shaped_fixed : (s : Shape) (w p : ℕ) → width s.kind ≡ Some w → values_at xs end start s p ≡ fixed_values xs end start s.kind w s.several p
  unfolding values_at
  shaped_fixed s w p e = ap (λ o. values_of xs end start o s.kind s.several p) e

  pub shaped_sized : (s : Shape) (p : ℕ) → width s.kind ≡ None → values_at xs end start s p ≡ sized_values xs end start s.kind s.several p
  unfolding values_at
  shaped_sized s p e = ap (λ o. values_of xs end start o s.kind s.several p) e
