use Rattle.std.proofs.Common.{Ok, ap, ◌∙◌, arith}
use Rattle.std.proofs.lemmas.List.{length-take}
use Rattle.contents.proofs.ClassTexts.{class_read}
use Rattle.contents.proofs.classes.class_at.Goals as goal

pub returns-clause-value : goal.returns-clause-value
returns-clause-value g c =
    let h = c.in_ok-text.ensures in
    ap Ok c.class_of.ensures ∙ class_read _ _ _ _ h.value c.if-not-text.false _ _ (simp length-take (omega arith)) (rw h.same at c.in_ok-fetch.ensures.value.1)
