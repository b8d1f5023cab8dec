use Rattle.std.proofs.Common.{◌≡◌, ◌-◌, ◌≤◌, length, fold}
use Rattle.source.specs.Bytes.{part}
use Rattle.source.specs.Content.{meaning}
use Rattle.scan.proofs.scan.Given as goal

abbrev pub invariant-loop-done : goal.invariant-loop-done
invariant-loop-done g l =
    (l.done ≤ l.size) × (length l.buffer ≡ 256)
    × (g.S.Source.content l.source ≡ g.S.Source.content l.initial.source)
    × (l.state ≡ fold g.A.Automaton.step l.initial.state (part (meaning (g.S.Source.content l.initial.source)) l.place l.done))

abbrev pub decreases-loop-done : goal.decreases-loop-done
decreases-loop-done g l = l.size - l.done
