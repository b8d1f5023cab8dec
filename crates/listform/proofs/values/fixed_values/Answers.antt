use Rattle.pen.proofs.Pens.{◌▷◌}
use Rattle.listform.specs.Forms.{values_form}
use Rattle.listform.proofs.values.fixed_values.Goals as goal

pub returns-clause-value : goal.returns-clause-value
unfolding values_form
returns-clause-value g c =
    let h = c.number_at-count.ensures in
    rw (c.if-not-several.false, ← h.value) (c.put_le.ensures ▷ (rw h.same at c.fixed_run-2.ensures.value))
