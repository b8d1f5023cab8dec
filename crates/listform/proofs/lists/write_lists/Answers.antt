use Rattle.std.proofs.Common.{◌+◌, ◌-◌, refl, ◌∙◌, arith}
use native.Mathlib.Nat.{sub-zero}
use Rattle.listform.proofs.ListForms.{left_more, left_lost, left_none}
use Rattle.listform.proofs.lists.write_lists.Goals as goal

pub loop-init : goal.loop-init
loop-init g c = (refl, λ a f. (a, rw sub-zero f, λ after p. p), record { reference = refl; kept = refl })

pub returns-in_default-clause-value : goal.returns-in_default-clause-value
returns-in_default-clause-value g c =
    let i = c.loop.invariant in
    left_lost _ _ _ _ _ _ (c.args.count - (c.loop.counter + 1)) _ c.loop.pen _ (omega arith) i.1 (rw i.0 at c.in_default.ensures.value)

pub loop-preserved : goal.loop-preserved
loop-preserved g c =
    let i = c.loop.invariant in
    let q = c.in-Some.ensures in
    (q.same ∙ i.0, left_more _ _ _ _ _ _ _ _ _ _ _ (omega arith) i.1 (rw i.0 at q.value), record { reference = q.slice.reference ∙ i.2.reference; kept = q.slice.kept ∙ i.2.kept })

pub returns-clause-value : goal.returns-clause-value
returns-clause-value g c = let i = c.loop.invariant in left_none _ _ _ _ _ _ _ _ (omega arith) i.1
