use Rattle.std.proofs.Common.{◌≤◌, length, sym, inl, inr, arith}
use Rattle.std.proofs.lemmas.Bool.{cases_lt}
use Rattle.source.specs.Content.{meaning}
use Rattle.lookup.proofs.Passing.{passed_all}
use Rattle.lookup.proofs.counts.count_attachments.Goals as goal

pub returns-clause-value : goal.returns-clause-value
returns-clause-value g c =
    let w = c.pass.ensures in
    let xs = meaning (g.S.Source.content c.args.source.now) in
    let end : length xs ≤ c.pass.result.at.place = elim (cases_lt c.pass.result.at.place (length xs)) [
      | inl l ↦ absurd (omega (arith, w.stopped l, w.value.few, c.len-total.ensures.value, c.len-total.ensures.bound))
      | inr l ↦ l
    ] in
    sym (passed_all _ _ _ _ w.value end)
