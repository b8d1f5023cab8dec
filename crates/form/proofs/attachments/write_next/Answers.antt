use Rattle.form.proofs.Beginnings.{next_attached}
use Rattle.form.proofs.attachments.write_next.Goals as goal

pub returns-clause-value : goal.returns-clause-value
returns-clause-value g c =
    let t = c.gather-rows.ensures in
    let e = next_attached _ _ _ c.requires.good c.requires.rendered c.requires.more _ _ _ t.value in
    record { penned = rw (← e) (rw (t.same, c.as_slice.ensures) at c.write_attachment.ensures.value); rest = t.value.rest; good = t.value.after; onward = t.value.onward c.requires.more }
