use Rattle.std.proofs.Common.{◌≡◌, ◌-◌, min, length, take, sym, ◌∙◌, subst, arith}
use Rattle.std.proofs.lemmas.List.{length-take}
use Rattle.std.proofs.lemmas.Result.{err_from_is_err_and}
use Rattle.source.specs.Content.{meaning, source_limit}
use Rattle.frame.specs.declared.stages.Stage.TheVariants as stage
use Rattle.form.specs.Targets.{Readable}
use Rattle.form.proofs.Restated.{judged_good, judged_read, rows_short, stream_refused, fill_answers, fill_restates}
use Rattle.form.proofs.restate.Goals as goal

pub returns-then-lent-clause-answers : goal.returns-then-lent-clause-answers
returns-then-lent-clause-answers g c = rows_short _ _ _ c.if-lent.true

pub returns-in_err-judge-clause-answers : goal.returns-in_err-judge-clause-answers
returns-in_err-judge-clause-answers g c =
    let p = err_from_is_err_and c.from_residual.result c.from_residual.ensures.1 in
    rw (p.1, p.2) (stream_refused _ _ _ _ c.if-lent.false c.in_err-judge.ensures.reads)

pub fill-requires-clause-good : goal.fill-requires-clause-good
fill-requires-clause-good g c =
    let h = c.in_ok-judge.ensures in subst (λ l. Readable (meaning l) 6 stage.Version) (sym h.same) (judged_good _ _ h.reads)

pub returns-clause-answers : goal.returns-clause-answers
returns-clause-answers g c =
    let h = c.in_ok-judge.ensures in
    let l : length (take (c.min-size.result - 0) c.args.out.now) ≡ min (length c.args.out.now) source_limit =
    omega (arith, length-take (c.min-size.result - 0) c.args.out.now, c.min-size.ensures) in
    c.ok_or.ensures.value ∙ fill_answers _ _ (judged_read _ _ h.reads) _ _ _ _ c.if-lent.false l _ (rw h.same at c.fill.ensures.value)

pub returns-clause-writes : goal.returns-clause-writes
returns-clause-writes g c =
    let h = c.in_ok-judge.ensures in
    rw c.ok_or.ensures.value (fill_restates _ _ (judged_read _ _ h.reads) _ _ _ (rw h.same at c.fill.ensures.value) _ _)
