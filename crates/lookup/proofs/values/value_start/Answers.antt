use Rattle.std.proofs.Common.{◌+◌, ◌<◌, length, ◌∙◌, arith}
use Rattle.source.specs.Content.{meaning}
use Rattle.lookup.proofs.Reaching.{reach_step, reach_stopped}
use Rattle.lookup.proofs.Valued.{value_next}
use Rattle.lookup.proofs.values.value_start.Goals as goal

pub returns-in_default-clause-value : goal.returns-in_default-clause-value
returns-in_default-clause-value g c =
    let xs = meaning (g.S.Source.content c.args.source.now) in
    let i = c.loop.invariant in
    let q = c.in_default.ensures in
    let v : length xs < c.loop.here + 4 = rw i.0 at q.value in
    λ end start k l n a h e.
    absurd (reach_stopped _ _ _ _ n a (i.1 end start k l) (omega (arith, c.loop-test.true)) e (λ b f. omega (arith, (value_next xs end start l k _ b f).1)))

pub loop-preserved : goal.loop-preserved
loop-preserved g c =
    let xs = meaning (g.S.Source.content c.args.source.now) in
    let i = c.loop.invariant in
    let q = c.in-Some.ensures in
    (q.same ∙ i.0, λ end start k l. reach_step _ _ _ _ _ (i.1 end start k l) (λ b e. (rw i.0 at q.value) ∙ (value_next xs end start l k _ b e).0))
