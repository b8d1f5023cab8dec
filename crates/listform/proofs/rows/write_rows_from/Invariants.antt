use Rattle.std.proofs.Common.{◌≡◌, ◌+◌, ◌≤◌, drop}
use Rattle.source.specs.Content.{meaning}
use Rattle.pen.specs.Pen.{Leads}
use Rattle.listform.specs.Forms.{rows_form, number_behind, RowsFit}
use Rattle.listform.proofs.rows.write_rows_from.Given as goal

abbrev pub invariant-loop-row : goal.invariant-loop-row
invariant-loop-row g l =
    let xs = meaning (g.S.Source.content l.initial.source) in
    (g.S.Source.content l.source ≡ g.S.Source.content l.initial.source) × (l.number ≤ l.first + l.row-index)
    × RowsFit xs (drop l.row-index l.rows)
    × Leads l.initial.pen (rows_form xs l.first l.rows) l.pen (rows_form xs l.number (drop l.row-index l.rows))
    × (number_behind l.first l.rows ≡ number_behind l.number (drop l.row-index l.rows))
