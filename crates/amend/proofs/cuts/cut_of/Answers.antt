use Rattle.std.proofs.Common.{length, Some, None, ap, ◌∙◌}
use Rattle.amend.specs.Cuts.{cut_at, cut_of}
use Rattle.amend.proofs.Cutting.{found_below}
use Rattle.amend.proofs.cuts.cut_of.Goals as goal

pub cut_at-requires-in-With : goal.cut_at-requires-in-With
cut_at-requires-in-With c = found_below c.args.rows.now _ _ c.find.ensures

pub cut_at-requires-in-Less : goal.cut_at-requires-in-Less
cut_at-requires-in-Less c = found_below c.args.rows.now _ _ c.find-in-Less.ensures

pub returns-in-Same : goal.returns-in-Same
unfolding cut_of
returns-in-Same c = rw c.in-Same.is c.cut_at.ensures

pub returns-in-With : goal.returns-in-With
unfolding cut_of
returns-in-With c = rw c.in-With.is (c.cut_at-in-With.ensures ∙ ap (cut_at (length c.args.rows.now) (Some c.in-With.row)) c.find.ensures)

pub returns-in-Less : goal.returns-in-Less
unfolding cut_of
returns-in-Less c = rw c.in-Less.is (c.cut_at-in-Less.ensures ∙ ap (cut_at (length c.args.rows.now) None) c.find-in-Less.ensures)
