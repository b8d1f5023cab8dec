use Rattle.std.proofs.Common.{◌+◌, ◌-◌, ap, ◌∙◌}
use mir.Val.{bool_byte}
use Rattle.amend.specs.Cuts.{cut_count}
use Rattle.amend.proofs.Cutting.{put_counted}
use Rattle.amend.proofs.cuts.cut_count.Goals as goal

pub returns : goal.returns
unfolding cut_count
returns c = ap (λ n. c.args.cut.now.front + n + (c.args.size - c.args.cut.now.back)) (c.from.ensures ∙ ap bool_byte c.is_some.ensures ∙ put_counted c.args.cut.now.put)
