use Rattle.std.proofs.Common.{ap, arith, rules}
use Rattle.source.specs.Content.{meaning}
use Rattle.scan.proofs.Folds.{folded_step}
use Rattle.scan.proofs.scan.Goals as goal

pub loop-done-preserved : goal.loop-done-preserved
loop-done-preserved g c =
    let i = c.loop-done.invariant in
    let f = folded_step g.A.Automaton.step (meaning (g.S.Source.content c.loop-done.source)) (meaning (g.S.Source.content c.args.source.now))
    c.args.place c.loop-done.done c.min-n.result c.args.start c.loop-done.state c.after_all-state.result c.fetch.new.buffer c.loop-done.buffer
    c.in_ok-fetch.ensures.value.1 (ap meaning i.2) (omega arith) (omega arith) i.3 c.after_all-state.ensures in
    (omega arith, omega (arith, f.0), search rules, f.1)
