use Rattle.std.proofs.Common.{get_or, ap, ◌∙◌}
use Rattle.draft.proofs.Blank.{blank_sum}
use Rattle.draft.proofs.sum_of.Goals as goal

pub returns : goal.returns
returns c =
    let t = c.to_le_bytes.ensures in
    blank_sum c.args.number _ _ _ _
    (c.from.ensures ∙ ap (λ l. get_or l 0 0) t) (c.from-2.ensures ∙ ap (λ l. get_or l 1 0) t)
    (c.from-3.ensures ∙ ap (λ l. get_or l 2 0) t) (c.from-4.ensures ∙ ap (λ l. get_or l 3 0) t)
