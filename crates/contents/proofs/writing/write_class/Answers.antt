use Rattle.std.proofs.Common.{ap, ◌∙◌}
use Rattle.contents.specs.Writing.{known}
use Rattle.contents.proofs.Writes.{class_none}
use Rattle.contents.proofs.writing.write_class.Goals as goal

pub returns-in-None-clause-value : goal.returns-in-None-clause-value
returns-in-None-clause-value g c =
    let h = c.class_at.ensures in
    let k = c.in-None.ensures ∙ ap known h.value in
    class_none _ _ _ k (rw h.same at c.put_from.ensures.value)
