use Rattle.std.proofs.Common.{◌≡◌, ◌+◌, length, Some, sym, ap, ◌∙◌, arith}
use Rattle.source.specs.Bytes.{part, val}
use Rattle.source.specs.Content.{meaning}
use Rattle.property.specs.Kinds.{value}
use Rattle.lookup.proofs.Asked.{some_got, none_lost}
use Rattle.lookup.proofs.Passing.{nth_past}
use Rattle.lookup.proofs.Valued.{sized_all, sized_nth}
use Rattle.lookup.proofs.values.sized_at.Goals as goal

pub returns-in_err-count-clause-value : goal.returns-in_err-count-clause-value
returns-in_err-count-clause-value g c =
    let xs = meaning (g.S.Source.content c.args.source.now) in
    let q = c.at.ensures in
    λ end start k several a l e. absurd (omega (arith, (sized_all xs end start l k several c.args.place a e).0, none_lost _ _ _ _ _ c.in_err-count.ensures.value q.value))

pub returns-then-number-count-clause-value : goal.returns-then-number-count-clause-value
returns-then-number-count-clause-value g c =
    let xs = meaning (g.S.Source.content c.args.source.now) in
    let q = c.at.ensures in
    λ end start k several a l e.
    let (_, n, _) = sized_all xs end start l k several c.args.place a e in
    nth_past a.what c.args.number (omega (arith, (some_got _ _ _ _ _ _ c.in_ok-count.ensures.value q.value).1, c.if-number-count.true))

pub overflow_add-place : goal.overflow_add-place
overflow_add-place g c =
    let q = c.at.ensures in
    let t : c.len-total.result ≡ length (meaning (g.S.Source.content c.args.source.now)) = rw q.same at c.len-total.ensures.value in
    omega (arith, (some_got _ _ _ _ _ _ c.in_ok-count.ensures.value q.value).0, c.len-total.ensures.bound)

pub overflow_add-result : goal.overflow_add-result
overflow_add-result g c =
    let q = c.at.ensures in
    let w = c.at-2.ensures in
    let s = c.value_start-start.ensures in
    let t : c.len-total.result ≡ length (meaning (g.S.Source.content c.args.source.now)) = rw q.same at c.len-total.ensures.value in
    omega (arith, (some_got _ _ _ _ _ _ c.in_ok-size.ensures.value (rw (s.same ∙ q.same) at w.value)).0, c.len-total.ensures.bound)

pub returns-clause-value : goal.returns-clause-value
returns-clause-value g c =
    let xs = meaning (g.S.Source.content c.args.source.now) in
    let q = c.at.ensures in
    let s = c.value_start-start.ensures in
    let w = c.at-2.ensures in
    let here = c.value_start-start.result in
    let z : c.in_ok-size.size ≡ val (part xs here 4) = (some_got _ _ _ _ _ _ c.in_ok-size.ensures.value (rw (s.same ∙ q.same) at w.value)).1 in
    λ end start k several a l e.
    let (_, n, r) = sized_all xs end start l k several c.args.place a e in
    let (u, v) = sized_nth xs end start l k _ _ here c.args.number a ((rw q.same at s.value) end start k l) (sym r) (omega (arith, (some_got _ _ _ _ _ _ c.in_ok-count.ensures.value q.value).1, c.if-number-count.false)) in
    (omega (arith, u), v ∙ ap (λ n. Some (value k (part xs (here + 4) n))) (sym z))

pub returns-in_err-size-clause-value : goal.returns-in_err-size-clause-value
returns-in_err-size-clause-value g c =
    let xs = meaning (g.S.Source.content c.args.source.now) in
    let q = c.at.ensures in
    let s = c.value_start-start.ensures in
    let w = c.at-2.ensures in
    let here = c.value_start-start.result in
    λ end start k several a l e.
    let (_, n, r) = sized_all xs end start l k several c.args.place a e in
    let (u, _) = sized_nth xs end start l k _ _ here c.args.number a ((rw q.same at s.value) end start k l) (sym r) (omega (arith, (some_got _ _ _ _ _ _ c.in_ok-count.ensures.value q.value).1, c.if-number-count.false)) in
    absurd (omega (arith, u, none_lost _ _ _ _ _ c.in_err-size.ensures.value (rw (s.same ∙ q.same) at w.value)))
