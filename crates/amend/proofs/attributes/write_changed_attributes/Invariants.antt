use Rattle.std.proofs.Common.{◌≡◌, length, drop}
use Rattle.source.specs.Content.{meaning}
use Rattle.pen.specs.Pen.{Leads}
use Rattle.editing.specs.Amendments as spec
use Rattle.amend.specs.Changes.{SlotMeans}
use Rattle.amend.specs.Parts.{attributes_after}
use Rattle.amend.proofs.attributes.write_changed_attributes.Given as goal

abbrev pub invariant-loop-attribute : goal.invariant-loop-attribute
invariant-loop-attribute g l =
    let xs = meaning (g.S.Source.content l.initial.source) in
    (g.S.Source.content l.source ≡ g.S.Source.content l.initial.source)
    × (g.T.Source.content l.input ≡ g.T.Source.content l.initial.input)
    × (length l.pen.out.now ≡ length l.initial.pen.out.now)
    × ((σ : spec.Slot) → SlotMeans (meaning (g.T.Source.content l.initial.input)) l.slot σ
    → Leads l.initial.pen (attributes_after xs l.rows σ l.table) l.pen (attributes_after xs l.rows σ (drop l.attribute-index l.table)))
