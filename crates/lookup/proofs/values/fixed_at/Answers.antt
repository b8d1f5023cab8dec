use Rattle.std.proofs.Common.{◌≡◌, ◌+◌, ◌*◌, ◌≤◌, Some, sym, ap, ◌∙◌, inl, inr, mul-le-mul, arith}
use Rattle.std.proofs.lemmas.Bool.{cases_eq, eq-eqb, ne_eqb}
use Rattle.source.specs.Bytes.{part}
use Rattle.source.specs.Content.{meaning}
use Rattle.property.specs.Fields.{padded}
use Rattle.property.specs.Kinds.{value}
use Rattle.message.specs.Sameness.{nth}
use Rattle.lookup.proofs.Asked.{some_got, none_lost}
use Rattle.lookup.proofs.Passing.{nth_past}
use Rattle.lookup.proofs.Valued.{fixed_only, fixed_all, fixed_nth}
use Rattle.lookup.proofs.values.fixed_at.Goals as goal

pub returns-then-not-several-clause-value : goal.returns-then-not-several-clause-value
returns-then-not-several-clause-value g c end start k a l e =
    let xs = meaning (g.S.Source.content c.args.source.now) in
    let (u, v, n) = fixed_only xs end start l k c.args.width c.args.place a c.args.several c.if-not-several.true e in
    elim (cases_eq c.args.number 0) [
      | inl z ↦ rw (c.then_some.ensures, eq-eqb c.args.number 0 z) (
        omega (arith, u, c.from-size.ensures),
        ap (nth a.what) z ∙ v ∙ ap (λ n. Some (value k (part xs c.args.place n))) (sym c.from-size.ensures),
      )
      | inr d ↦ rw (c.then_some.ensures, ne_eqb c.args.number 0 d) (nth_past a.what c.args.number (omega arith))
    ]

pub returns-then-number-count-clause-value : goal.returns-then-number-count-clause-value
returns-then-number-count-clause-value g c =
    let xs = meaning (g.S.Source.content c.args.source.now) in
    let q = c.at.ensures in
    λ end start k a l e.
    let (_, n, _) = fixed_all xs end start l k c.args.width c.args.place a c.args.several c.if-not-several.false e in
    nth_past a.what c.args.number (omega (arith, (some_got _ _ _ _ _ _ c.in_ok-count.ensures.value q.value).1, c.if-number-count.true))

pub overflow_add-place : goal.overflow_add-place
overflow_add-place g c =
    let q = c.at.ensures in
    omega (arith, (some_got _ _ _ _ _ _ c.in_ok-count.ensures.value q.value).0, c.len-total.ensures.value, c.len-total.ensures.bound)

pub overflow_add-place-2 : goal.overflow_add-place-2
overflow_add-place-2 g c =
    let q = c.at.ensures in
    let w : c.padded.result ≤ 512 = omega (arith, c.padded.ensures, c.from-size.ensures, c.ranges.width) in
    let n : c.args.number ≤ 4294967296 = omega (arith, c.if-number-count.false) in
    let m : c.args.number * c.padded.result ≤ 2199023255552 = mul-le-mul n w in
    omega (arith, (some_got _ _ _ _ _ _ c.in_ok-count.ensures.value q.value).0, c.len-total.ensures.value, c.len-total.ensures.bound)

pub returns-clause-value : goal.returns-clause-value
returns-clause-value g c =
    let xs = meaning (g.S.Source.content c.args.source.now) in
    let q = c.at.ensures in
    let w : c.padded.result ≡ padded c.args.width = c.padded.ensures ∙ ap padded c.from-size.ensures in
    let t : c.args.number * c.padded.result ≡ c.args.number * padded c.args.width = ap (λ n. c.args.number * n) w in
    λ end start k a l e.
    let (_, n, r) = fixed_all xs end start l k c.args.width c.args.place a c.args.several c.if-not-several.false e in
    let (u, v) = fixed_nth xs end start l k c.args.width _ _ a c.args.number r (omega (arith, (some_got _ _ _ _ _ _ c.in_ok-count.ensures.value q.value).1, c.if-number-count.false)) in (
      omega (arith, u, t, c.from-size.ensures),
      v ∙ ap (λ n. Some (value k (part xs (c.args.place + 4 + n) c.args.width))) (sym t)
          ∙ ap (λ n. Some (value k (part xs (c.args.place + 4 + c.args.number * c.padded.result) n))) (sym c.from-size.ensures),
    )

pub returns-in_err-count-clause-value : goal.returns-in_err-count-clause-value
returns-in_err-count-clause-value g c =
    let xs = meaning (g.S.Source.content c.args.source.now) in
    let q = c.at.ensures in
    λ end start k a l e.
    let (u, _, _) = fixed_all xs end start l k c.args.width c.args.place a c.args.several c.if-not-several.false e in
    absurd (omega (arith, u, none_lost _ _ _ _ _ c.in_err-count.ensures.value q.value))
