use Rattle.std.proofs.Common.{ltb, ap, ◌∙◌}
use Rattle.lookup.proofs.Passing.{passed_tells}
use Rattle.lookup.proofs.counts.has_attachment.Goals as goal

pub returns-clause-value : goal.returns-clause-value
returns-clause-value g c =
    let w = c.pass-passed.ensures in
    ap (ltb c.pass-passed.result.at.place) c.len-total.ensures.value ∙ passed_tells _ _ _ _ _ w.value w.within w.stopped
