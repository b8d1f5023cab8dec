use Rattle.std.proofs.Common.{◌∙◌}
use Rattle.form.proofs.Gathers.{row_first}
use Rattle.form.proofs.row_list.row_under.Goals as goal

pub returns : goal.returns
returns c = c.first_row.ensures ∙ row_first c.args.id _
