use Rattle.std.proofs.Common.{[], refl, arith}
use Rattle.std.proofs.lemmas.Result.{err_from_is_err_and}
use Rattle.editing.specs.Amendments as spec
use Rattle.draft.proofs.Ends.{attachment_not_there, attachment_there}
use Rattle.draft.proofs.checking.remove_attachment.Goals as goal

pub returns-in_err-target_there : goal.returns-in_err-target_there
returns-in_err-target_there g c =
    let p = err_from_is_err_and c.from_residual.result c.from_residual.ensures.1 in
    let h = c.in_err-target_there.ensures in
    rw (p.1, p.2) (record { same = h.same; checks = attachment_not_there _ _ _ h.value })

pub returns : goal.returns
returns g c =
    let h = c.in_ok-target_there.ensures in
    record { same = h.same; checks = (_, c.to_attachments.ensures [] (spec.attachment_removed c.args.number) refl, attachment_there _ _ _ h.value, omega arith) }
