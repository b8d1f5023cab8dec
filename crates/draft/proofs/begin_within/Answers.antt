use Rattle.std.proofs.Common.{◌≡◌, ◌-◌, [], length, take, sym, ap, ◌∙◌, arith}
use Rattle.std.proofs.lemmas.Result.{err_from_is_err_and}
use Rattle.std.proofs.lemmas.List.{length-take}
use Rattle.source.specs.Outcome.{over}
use Rattle.draft.specs.Drafts.{memory}
use Rattle.draft.proofs.Blank.{begin_short, begin_form, begin_front}
use Rattle.draft.proofs.Loading.{enough_got, enough_lost, is_enough}
use Rattle.draft.proofs.begin_within.Goals as goal

pub returns-in_err-enough : goal.returns-in_err-enough
returns-in_err-enough c =
    let p = err_from_is_err_and c.from_residual.result c.from_residual.ensures.1 in
    let (f, e) = enough_lost (memory c.args.bytes.now c.args.rows.now) c.args.room _ c.in_err-enough.ensures in
    let s = begin_short (memory c.args.bytes.now c.args.rows.now) c.args.room c.args.primary f in
    rw (p.1, p.2, e) (record { outcome = sym (ap (over length) s); form = rw s tt })

pub returns : goal.returns
returns c =
    let w = memory c.args.bytes.now c.args.rows.now in
    let (a, b) = enough_got w c.args.room _ c.in_ok-enough.ensures in
    let q : length (take (c.args.room - 0) c.args.bytes.now) ≡ c.args.room = omega (arith, a, length-take (c.args.room - 0) c.args.bytes.now) in
    let t = is_enough w c.args.room a b in
    record {
      outcome = c.ok_or.ensures.value ∙ begin_form w c.args.room c.args.primary t _ _ [] q _ c.fill_blank.ensures;
      form = begin_front w c.args.room c.args.primary t _ _ _ q _ c.fill_blank.ensures;
    }
