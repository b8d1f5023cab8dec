use Rattle.std.proofs.Common.{true, false, sym, ap, ◌∙◌}
use Rattle.std.proofs.lemmas.Result.{err_from_is_err_and}
use Rattle.source.proofs.Outcomes.{err_not_ok}
use Rattle.contents.specs.Contents.{admits}
use Rattle.property.specs.Fields.{done}
use Rattle.draft.proofs.Changing.{asked_whole, contents_judged, contents_long}
use Rattle.draft.proofs.given.contents_given.Goals as goal

pub returns-in_err-good : goal.returns-in_err-good
returns-in_err-good c =
    let m = c.in_ok-source.ensures.1 in
    let h = rw m at c.in_err-good.ensures.value in
    absurd (err_not_ok (h ∙ asked_whole (admits c.args.rule) c.args.bytes.now))

pub returns-then-not-good : goal.returns-then-not-good
returns-then-not-good c =
    let (s, m) = c.in_ok-source.ensures in
    let h = rw m at c.in_ok-good.ensures.value in
    record { judged = contents_judged c.args.rule c.args.bytes.now false s (rw c.if-not-good.true at h); short = tt }

pub returns : goal.returns
returns c =
    let (s, m) = c.in_ok-source.ensures in
    let h = rw m at c.in_ok-good.ensures.value in
    record { judged = contents_judged c.args.rule c.args.bytes.now true s (rw c.if-not-good.false at h); short = s }

pub returns-in_err-source : goal.returns-in_err-source
returns-in_err-source c =
    let p = err_from_is_err_and c.from_residual.result c.from_residual.ensures.1 in
    let (s, e) = c.in_err-source.ensures in
    rw (p.1, p.2, e) (record { judged = sym (ap done (contents_long c.args.rule c.args.bytes.now s)); short = tt })
