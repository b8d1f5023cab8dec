use Rattle.std.proofs.Common.{◌≡◌, ◌-◌, true, false, length, take, Err, sym, ap, arith, rules}
use Rattle.std.specs.Str.{bytes_eq}
use Rattle.source.specs.Outcome.{given}
use Rattle.source.specs.declared.refusals.Reason.TheVariants.{NotWritten}
use Rattle.property.specs.Fields.{done}
use Rattle.form.specs.Restating.{restated}
use Rattle.draft.proofs.Openings.{restated_size, restated_not, compared_written}
use Rattle.draft.proofs.opening.is_written.Goals as goal

pub slice_bounds-eq-end : goal.slice_bounds-eq-end
slice_bounds-eq-end c =
    let h = c.in-Ok-restate.ensures in
    let i = restated_size _ _ _ _ c.requires.room h.answers in
    search rules

pub returns-then-eq : goal.returns-then-eq
returns-then-eq c =
    let z : c.in-Ok-restate.n - 0 ≡ c.in-Ok-restate.n = omega arith in
    let h = c.in-Ok-restate.ensures in
    let m = c.in-Ok.ensures.1 in
    let e : true ≡ bytes_eq (take c.in-Ok-restate.n c.restate.new.out) c.args.form.now = rw z at c.if-eq.ensures in
    sym (compared_written c.args.form.now c.restate.new.out c.in-Ok-restate.n true (rw m at h.writes) e)

pub returns : goal.returns
returns c =
    let z : c.in-Ok-restate.n - 0 ≡ c.in-Ok-restate.n = omega arith in
    let h = c.in-Ok-restate.ensures in
    let m = c.in-Ok.ensures.1 in
    let e : false ≡ bytes_eq (take c.in-Ok-restate.n c.restate.new.out) c.args.form.now = rw z at c.if-eq.ensures in
    sym (compared_written c.args.form.now c.restate.new.out c.in-Ok-restate.n false (rw m at h.writes) e)

pub returns-in_default-restate : goal.returns-in_default-restate
returns-in_default-restate c =
    let h = c.in_default-restate.ensures in
    let m = c.in-Ok.ensures.1 in
    let a = rw m at h.answers in
    let b : Err _ ≡ restated c.args.form.now (length c.args.rows.now) (length c.args.form.now) = rw c.requires.fits at a in
    sym (ap (λ o. done (given o NotWritten 0)) (restated_not c.args.form.now _ _ c.requires.room c.requires.short b))
