use Rattle.std.proofs.Common.{◌∙◌}
use Rattle.index.proofs.Positions.{position_is}
use Rattle.index.proofs.find.Goals as goal

pub returns : goal.returns
returns g c = c.first_place.ensures ∙ position_is g.R.Row.same c.args.rows.now c.args.probe.now
