use Rattle.std.proofs.Common.{refl, ◌∙◌, arith}
use Rattle.lookup.proofs.Passing.{passed_none, passed_more}
use Rattle.lookup.proofs.targets.pass.Goals as goal

pub loop-count-init : goal.loop-count-init
loop-count-init g c = let t = c.gather.ensures in (refl, rw t.same (passed_none _ _ _ _ c.requires.good t.value t.written))

pub loop-count-preserved : goal.loop-count-preserved
loop-count-preserved g c =
    let i = c.loop-count.invariant in
    let n = c.gather-in-loop-count.ensures in
    (n.same ∙ i.0, passed_more _ _ _ _ _ _ _ i.1 (rw c.gather.ensures.same (omega (arith, c.if-at-total.false, c.len-total.ensures.value))) (rw i.0 at n.value) (rw i.0 at n.written))
