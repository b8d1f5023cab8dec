use Rattle.pen.proofs.Pens.{◌▷◌}
use Rattle.draft.proofs.Blank.{blank_form}
use Rattle.draft.proofs.pen_blank.Goals as goal

pub returns : goal.returns
returns c =
    let p = c.put.ensures ▷ (c.put_le.ensures ▷ (c.put_le-2.ensures ▷ c.put_le-3.ensures)) in
    rw (blank_form c.args.primary _ c.sum_of.ensures) at p
