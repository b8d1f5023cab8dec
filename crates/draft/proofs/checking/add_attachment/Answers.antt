use Rattle.std.proofs.Common.{refl}
use Rattle.std.proofs.lemmas.Result.{err_from_is_err_and}
use Rattle.std.proofs.lemmas.Bool.{lt-ltb, le-ltb}
use Rattle.attribute.specs.declared.Rule.TheVariants as rule
use Rattle.editing.specs.Amendments as spec
use Rattle.draft.proofs.Ends.{contents_got, rendering_unfit, attachments_full, attachment_put}
use Rattle.draft.proofs.checking.add_attachment.Goals as goal

pub returns-in_err-contents_given : goal.returns-in_err-contents_given
returns-in_err-contents_given g c =
    let p = err_from_is_err_and c.from_residual.result c.from_residual.ensures.1 in
    rw (p.1, p.2) (record { same = refl; checks = rendering_unfit _ _ _ c.in_err-contents_given.ensures.judged })

pub returns-then-count : goal.returns-then-count
returns-then-count g c =
    let k = c.in_ok-contents_given.ensures in
    let (q, fits, means) = contents_got rule.Rendering c.args.bytes.now _ k.short k.judged in
    let h = c.count_attachments-count.ensures in
    record { same = h.same; checks = attachments_full _ _ q fits (le-ltb _ _ (rw h.value at c.if-count.true)) }

pub returns : goal.returns
returns g c =
    let k = c.in_ok-contents_given.ensures in
    let (q, fits, means) = contents_got rule.Rendering c.args.bytes.now _ k.short k.judged in
    let h = c.count_attachments-count.ensures in
    record {
      same = h.same;
      checks = (_, c.to_attachments.ensures c.args.bytes.now (spec.attachment_added q) means, attachment_put _ _ q fits (lt-ltb _ _ (rw h.value at c.if-count.false)), k.short);
    }
