use Rattle.source.specs.Content.{meaning}
use Rattle.amend.specs.Attachments.{nth_touched}
use Rattle.amend.proofs.Meanings.{before_means, added_means, changed_means}
use Rattle.amend.proofs.Attached.{all_bytes}
use Rattle.amend.proofs.attachings.write_changed_attachments.Goals as goal

pub returns-in-Kept-clause-value : goal.returns-in-Kept-clause-value
returns-in-Kept-clause-value g c = λ β m.
    rw (before_means (meaning (g.T.Source.content c.args.input.now)) β (rw c.in-Kept.is at m)) (rw all_bytes at c.write_attachments.ensures.value)

pub returns-in-Added-clause-value : goal.returns-in-Added-clause-value
returns-in-Added-clause-value g c = λ β m.
    let (d, a, e) = added_means _ β (rw c.in-Added.is at m) in
    rw e (c.write_added.ensures.value d a)

pub returns-in-Changed-clause-value : goal.returns-in-Changed-clause-value
unfolding nth_touched
returns-in-Changed-clause-value g c = λ β m.
    let (τ, t, e) = changed_means _ c.in-Changed.number c.in-Changed.touch β (rw c.in-Changed.is at m) in
    rw e (c.write_touched.ensures.value τ t)
