use Rattle.std.proofs.Common.{sym, ◌∙◌, arith}
use Rattle.attribute.specs.Table.{attributes}
use Rattle.form.proofs.Gathers.{covered_most, gather_more, gather_stands, gather_end}
use Rattle.form.proofs.targets.gather.Goals as goal

pub overflow_add-frame : goal.overflow_add-frame
overflow_add-frame g c =
    let i = c.loop-frame.invariant in
    let t = gather_stands _ _ _ _ _ _ _ i.1 (sym (rw (c.len.ensures, i.0) at c.own_frame.ensures.value) ∙ c.in-Some.is) in
    omega (arith, t.place, t.next, t.within, c.len-total.ensures.value, c.len-total.ensures.bound)

pub add-requires : goal.add-requires
add-requires g c = omega (arith, c.loop-frame.invariant.1.few, covered_most c.loop-frame.rows attributes)

pub loop-frame-smaller : goal.loop-frame-smaller
loop-frame-smaller g c =
    let i = c.loop-frame.invariant in
    let t = gather_stands _ _ _ _ _ _ _ i.1 (sym (rw (c.len.ensures, i.0) at c.own_frame.ensures.value) ∙ c.in-Some.is) in
    rw c.behind.ensures (omega (arith, t.next, t.within))

pub loop-frame-preserved : goal.loop-frame-preserved
loop-frame-preserved g c =
    let i = c.loop-frame.invariant in
    let e = sym (rw (c.len.ensures, i.0) at c.own_frame.ensures.value) ∙ c.in-Some.is in
    (c.own_frame.ensures.same ∙ i.0, rw c.behind.ensures (gather_more _ _ _ _ _ _ _ _ i.1 e c.add.ensures))

pub returns-clause-within : goal.returns-clause-within
returns-clause-within g c = omega (arith, c.loop-frame.invariant.1.few, covered_most c.loop-frame.rows attributes)

pub returns-clause-value : goal.returns-clause-value
returns-clause-value g c =
    let i = c.loop-frame.invariant in
    gather_end _ _ _ _ _ _ i.1 (sym (rw (c.len.ensures, i.0) at c.own_frame.ensures.value) ∙ c.in_default.is)
