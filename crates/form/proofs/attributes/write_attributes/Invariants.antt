use Rattle.std.proofs.Common.{◌≡◌, length, drop}
use Rattle.std.specs.List.{flat_map}
use Rattle.source.specs.Content.{meaning}
use Rattle.pen.specs.Pen.{Leads}
use Rattle.stream.specs.Writing.{write_entry, attribute_entries}
use Rattle.form.specs.Holdings.{contents_in}
use Rattle.form.proofs.attributes.write_attributes.Given as goal

abbrev pub invariant-loop-attribute : goal.invariant-loop-attribute
invariant-loop-attribute g l =
    (g.S.Source.content l.source ≡ g.S.Source.content l.initial.source) × (length l.pen.out.now ≡ length l.initial.pen.out.now)
    × Leads l.initial.pen (flat_map write_entry (attribute_entries l.table (contents_in (meaning (g.S.Source.content l.initial.source)) l.rows)))
    l.pen (flat_map write_entry (attribute_entries (drop l.attribute-index l.table) (contents_in (meaning (g.S.Source.content l.initial.source)) l.rows)))
