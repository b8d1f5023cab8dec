use Rattle.std.proofs.Common.{◌≡◌, ◌-◌, length}
use Rattle.source.specs.Content.{meaning}
use Rattle.pen.specs.Pen.{Leads}
use Rattle.listform.specs.Forms.{fixed_form, fixed_next}
use Rattle.listform.specs.Walks.{walked, Within}
use Rattle.listform.proofs.values.fixed_run.Given as goal

abbrev pub invariant-loop : goal.invariant-loop
invariant-loop g l =
    let xs = meaning (g.S.Source.content l.initial.source) in
    (g.S.Source.content l.source ≡ g.S.Source.content l.initial.source)
    × Within (length xs) (fixed_next l.size) (l.count - l.counter) l.read
    × Leads l.initial.pen (walked (fixed_form xs l.kind l.size) (fixed_next l.size) l.count l.place)
    l.pen (walked (fixed_form xs l.kind l.size) (fixed_next l.size) (l.count - l.counter) l.read)
