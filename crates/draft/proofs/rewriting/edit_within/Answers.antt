use Rattle.std.proofs.Common.{◌≡◌, ◌-◌, ◌≤◌, length, Ok, sym, ap, ◌∙◌, subst, arith, rules}
use Rattle.std.proofs.lemmas.List.{length-take}
use Rattle.std.proofs.lemmas.Result.{err_from_is_err_and}
use Rattle.source.specs.Content.{Content, meaning}
use Rattle.frame.specs.declared.stages.Stage.TheVariants.{Version}
use Rattle.form.specs.Targets.{Readable}
use Rattle.editing.specs.Edits.{change}
use Rattle.editing.specs.Amendments.{amended}
use Rattle.amend.specs.Changes.{AmendmentMeans}
use Rattle.lookup.specs.Finding.{message_in}
use Rattle.source.specs.Outcome.{over}
use Rattle.draft.specs.Drafts.{memory, fitted, Front}
use Rattle.draft.specs.Calls.{state, form}
use Rattle.draft.specs.Checks.{edit_of}
use Rattle.draft.proofs.Rewritten.{opened_got, read_good, held_form, edit_unopened, edit_refused, edit_fitted}
use Rattle.draft.proofs.rewriting.edit_within.Goals as goal

pub returns-in_err-open : goal.returns-in_err-open
returns-in_err-open c =
    let p = err_from_is_err_and c.from_residual.result c.from_residual.ensures.1 in
    let w = memory c.args.bytes.now c.args.rows.now in
    let e = edit_unopened w (state c.args.area.now c.args.size) (edit_of c.args.edit) _ c.in_err-open.ensures in
    rw (p.1, p.2) (record { outcome = sym (ap (over length) e); form = rw e tt })

pub slice_bounds-new-end : goal.slice_bounds-new-end
slice_bounds-new-end c =
    let w = memory c.args.bytes.now c.args.rows.now in
    let (m, o) = opened_got w (state c.args.area.now c.args.size) _ c.in_ok-open.ensures in
    let h : c.args.size ≤ length c.args.area.now = o.within in
    search rules

pub check-requires : goal.check-requires
check-requires c =
    let d = state c.args.area.now c.args.size in
    let (m, o) = opened_got (memory c.args.bytes.now c.args.rows.now) d _ c.in_ok-open.ensures in
    let (good, is) = read_good (form d) m o.reads in
    let e = held_form c.args.area.now c.args.size _ c.in_ok-source.ensures.1 in
    record { good = rw e good; room = omega (arith, o.rows_enough, c.open.auto.rows) }

pub returns-in_err-amendment : goal.returns-in_err-amendment
returns-in_err-amendment c =
    let p = err_from_is_err_and c.from_residual-in_err-amendment.result c.from_residual-in_err-amendment.ensures.1 in
    let w = memory c.args.bytes.now c.args.rows.now in
    let d = state c.args.area.now c.args.size in
    let (m, o) = opened_got w d _ c.in_ok-open.ensures in
    let (good, is) = read_good (form d) m o.reads in
    let e = held_form c.args.area.now c.args.size _ c.in_ok-source.ensures.1 in
    let q = rw (e, is) at c.in_err-amendment.ensures.checks in
    let f = edit_refused w d (edit_of c.args.edit) m _ o.is q in
    rw (p.1, p.2) (record { outcome = sym (ap (over length) f); form = rw f tt })

pub rewrite-requires : goal.rewrite-requires
rewrite-requires c =
    let d = state c.args.area.now c.args.size in
    let (m, o) = opened_got (memory c.args.bytes.now c.args.rows.now) d _ c.in_ok-open.ensures in
    let (good, is) = read_good (form d) m o.reads in
    let e = held_form c.args.area.now c.args.size _ c.in_ok-source.ensures.1 in
    let k = c.in_ok-amendment.ensures in
    let (s, means, changed, short) = k.checks in
    let p = c.put_by.ensures in
    record {
      good = subst (λ l. Readable (meaning l) 6 Version) (sym k.same) (rw e good);
      meant = (s, rw p means);
      short = rw p short;
      fits = omega (arith, o.bytes_enough, c.open.auto.bytes);
      lent = omega (arith, o.rows_enough, c.open.auto.rows, c.check.auto.rows);
    }

pub returns : goal.returns
returns c =
    let w = memory c.args.bytes.now c.args.rows.now in
    let d = state c.args.area.now c.args.size in
    let (m, o) = opened_got w d _ c.in_ok-open.ensures in
    let (good, is) = read_good (form d) m o.reads in
    let e = held_form c.args.area.now c.args.size _ c.in_ok-source.ensures.1 in
    let k = c.in_ok-amendment.ensures in
    let (s, means, changed, short) = k.checks in
    let n = ap (λ (l : Content). message_in (meaning l)) k.same ∙ ap message_in e ∙ is in
    let there = ap message_in e ∙ is in
    let f = edit_fitted w d (edit_of c.args.edit) m (amended s m) o.is (subst (λ x. change (edit_of c.args.edit) x ≡ Ok (amended s x)) there changed) in
    let a = subst (λ l. AmendmentMeans l c.in_ok-amendment.amendment s) (sym c.put_by.ensures) means in
    record {
      outcome = c.rewrite.ensures.outcome s a ∙ ap (λ x. over length (fitted (length c.args.area.now) (amended s x))) n ∙ sym (ap (over length) f);
      form = subst (λ x. Front x c.rewrite.new.bytes) (sym f) (subst (λ x. Front (fitted (length c.args.area.now) (amended s x)) c.rewrite.new.bytes) n (c.rewrite.ensures.form s a));
    }

pub returns-in_err-source : goal.returns-in_err-source
returns-in_err-source c =
    let d = state c.args.area.now c.args.size in
    let (m, o) = opened_got (memory c.args.bytes.now c.args.rows.now) d _ c.in_ok-open.ensures in
    absurd (omega (arith, c.in_err-source.ensures.0, length-take (c.args.size - 0) c.args.area.now, o.short))
