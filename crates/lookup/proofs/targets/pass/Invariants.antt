use Rattle.std.proofs.Common.{◌≡◌}
use Rattle.source.specs.Content.{meaning}
use Rattle.lookup.specs.Finding.{Passed}
use Rattle.lookup.proofs.targets.pass.Given as goal

abbrev pub invariant-loop-count : goal.invariant-loop-count
invariant-loop-count g l =
    (g.S.Source.content l.source ≡ g.S.Source.content l.initial.source)
    × Passed (meaning (g.S.Source.content l.initial.source)) l.count l.at.place l.at.stage
