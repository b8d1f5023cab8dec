use Rattle.std.proofs.Common.{◌≡◌, ◌-◌}
use Rattle.source.specs.Content.{meaning}
use Rattle.amend.proofs.Turns.{Left}
use Rattle.amend.proofs.tables.write_turns.Given as goal

abbrev pub invariant-loop-i : goal.invariant-loop-i
invariant-loop-i g l =
    (g.S.Source.content l.source ≡ g.S.Source.content l.initial.source)
    × (g.T.Source.content l.input ≡ g.T.Source.content l.initial.input)
    × Left (meaning (g.S.Source.content l.initial.source)) (meaning (g.T.Source.content l.initial.input)) l.rowing l.table.end l.table.count l.table.place l.initial.pen
    l.i (l.table.count - l.i) l.read l.pen
