use Rattle.std.proofs.Common.{◌≡◌, ◌-◌}
use Rattle.source.specs.Content.{meaning}
use Rattle.pen.specs.Pen.{SameSlice}
use Rattle.listform.proofs.ListForms.{Left}
use Rattle.listform.proofs.lists.write_lists.Given as goal

abbrev pub invariant-loop : goal.invariant-loop
invariant-loop g l =
    (g.S.Source.content l.source ≡ g.S.Source.content l.initial.source)
    × Left (meaning (g.S.Source.content l.initial.source)) l.end l.count l.place l.initial.pen (l.count - l.counter) l.read l.pen
    × SameSlice l.initial.pen l.pen
