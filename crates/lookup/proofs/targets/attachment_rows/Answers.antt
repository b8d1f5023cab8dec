use Rattle.std.proofs.Common.{◌<◌, length, sym, ap, ◌∙◌, arith}
use Rattle.source.specs.Content.{meaning}
use Rattle.message.specs.Sameness.{nth}
use Rattle.lookup.specs.Finding.{message_in}
use Rattle.lookup.proofs.Passing.{passed_gone, passed_here}
use Rattle.lookup.proofs.Saying.{says_attachment}
use Rattle.lookup.proofs.targets.attachment_rows.Goals as goal

pub returns-then-at-total-clause-value : goal.returns-then-at-total-clause-value
returns-then-at-total-clause-value g c =
    let w = c.pass.ensures in passed_gone _ _ _ _ _ w.value w.within (omega (arith, c.if-at-total.true, c.len-total.ensures.value))

pub returns-clause-value : goal.returns-clause-value
returns-clause-value g c =
    let w = c.pass.ensures in
    let t = c.gather.ensures in
    let xs = meaning (g.S.Source.content c.args.source.now) in
    let l : c.pass.result.at.place < length xs = omega (arith, c.if-at-total.false, c.len-total.ensures.value) in (
      _,
      ap (nth (message_in xs).attachments) (sym (w.stopped l)) ∙ passed_here xs _ _ _ w.value l,
      says_attachment xs _ _ _ _ _ w.value.good w.value.rendered l w.value.along (rw w.same at t.value) (rw w.same at t.written),
    )
