use Rattle.std.proofs.Common.{◌≡◌, ◌-◌, length}
use Rattle.source.specs.Content.{meaning}
use Rattle.pen.specs.Pen.{Leads}
use Rattle.listform.specs.Forms.{sized_form, sized_next}
use Rattle.listform.specs.Walks.{walked, Within}
use Rattle.listform.proofs.values.sized_run.Given as goal

abbrev pub invariant-loop : goal.invariant-loop
invariant-loop g l =
    let xs = meaning (g.S.Source.content l.initial.source) in
    (g.S.Source.content l.source ≡ g.S.Source.content l.initial.source)
    × Within (length xs) (sized_next xs) (l.count - l.counter) l.read
    × Leads l.initial.pen (walked (sized_form xs) (sized_next xs) l.count l.place)
    l.pen (walked (sized_form xs) (sized_next xs) (l.count - l.counter) l.read)
