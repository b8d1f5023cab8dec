use Rattle.std.proofs.Common.{◌≡◌, min, length, ◌∙◌, arith}
use Rattle.source.specs.Content.{meaning}
use Rattle.lookup.proofs.Reaching.{reach_more, reach_lost}
use Rattle.lookup.proofs.lists.list_start.Goals as goal

pub returns-in_default-clause-value : goal.returns-in_default-clause-value
returns-in_default-clause-value g c =
    let i = c.loop.invariant in
    let q = c.in_default.ensures in
    let z : min c.args.end (length (meaning (g.S.Source.content c.args.source.now))) ≡ c.args.end = omega (arith, c.requires) in
    λ n a h e. absurd (reach_lost _ _ _ _ n a _ i.1 (omega (arith, c.loop-test.true)) e (rw (i.0, z) at q.reads))

pub loop-preserved : goal.loop-preserved
loop-preserved g c =
    let i = c.loop.invariant in
    let q = c.in-Ok.ensures in
    let z : min c.args.end (length (meaning (g.S.Source.content c.args.source.now))) ≡ c.args.end = omega (arith, c.requires) in
    (q.same ∙ i.0, reach_more _ _ _ _ _ i.1 (rw (i.0, z) at q.reads))
