use Rattle.std.proofs.Common.{◌≡◌, ◌-◌, ◌<◌, ◌≤◌, ◌⊎◌, length, ◌∙◌, inl, inr, arith}
use Rattle.std.proofs.lemmas.Result.{err_from_is_err_and}
use Rattle.source.specs.Content.{source_limit}
use Rattle.draft.specs.Drafts.{memory}
use Rattle.draft.specs.Calls.{state}
use Rattle.draft.proofs.Loading.{enough_got, enough_lost, is_enough}
use Rattle.draft.proofs.Openings.{open_short, open_outside, open_judged}
use Rattle.draft.proofs.opening.open.Goals as goal
use Rattle.draft.proofs.opening.open.Goals.{then-size-area-via-then-size-area, then-size-area-via-else-size-area+then-size-gt-SOURCE_LIMIT}

pub returns-in_err-enough : goal.returns-in_err-enough
returns-in_err-enough c =
    let p = err_from_is_err_and c.from_residual.result c.from_residual.ensures.1 in
    let (f, e) = enough_lost (memory c.args.bytes.now c.args.rows.now) (length c.args.area.now) _ c.in_err-enough.ensures in
    rw (p.1, p.2, e) (open_short (memory c.args.bytes.now c.args.rows.now) (state c.args.area.now c.args.size) f)

pub returns-then-size-area : goal.returns-then-size-area
returns-then-size-area c =
    let w = memory c.args.bytes.now c.args.rows.now in
    let h : (length c.args.area.now < c.args.size) ⊎ ((c.args.size ≤ length c.args.area.now) × (source_limit < c.args.size)) =
    elim c.then-size-area.branch [
      | then-size-area-via-then-size-area v ↦ inl v.if-size-area.true
      | then-size-area-via-else-size-area+then-size-gt-SOURCE_LIMIT v ↦ inr (v.if-size-area.false, v.if-size-gt-SOURCE_LIMIT.true)
    ] in
    let (a, b) = enough_got (memory c.args.bytes.now c.args.rows.now) (length c.args.area.now) _ c.in_ok-enough.ensures in
    open_outside w (state c.args.area.now c.args.size) (is_enough w _ a b) h

pub returns : goal.returns
returns c =
    let z : c.args.size - 0 ≡ c.args.size = omega arith in
    let w = memory c.args.bytes.now c.args.rows.now in
    let (a, b) = enough_got (memory c.args.bytes.now c.args.rows.now) (length c.args.area.now) _ c.in_ok-enough.ensures in
    rw z at c.is_written.ensures ∙ open_judged w (state c.args.area.now c.args.size) (is_enough w (length c.args.area.now) a b) (omega arith) (omega arith)
