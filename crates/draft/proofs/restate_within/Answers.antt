use Rattle.std.proofs.Common.{◌≡◌, ◌-◌, length, take, sym, refl, ap, ◌∙◌, arith}
use Rattle.std.proofs.lemmas.List.{length-take}
use Rattle.std.proofs.lemmas.Result.{err_from_is_err_and}
use Rattle.source.specs.Content.{meaning}
use Rattle.source.specs.Outcome.{over}
use Rattle.draft.specs.Drafts.{memory}
use Rattle.draft.proofs.Loading.{enough_got, enough_lost, front, outcome, short}
use Rattle.draft.proofs.restate_within.Goals as goal

pub returns-in_err-enough : goal.returns-in_err-enough
returns-in_err-enough g c =
    let p = err_from_is_err_and c.from_residual.result c.from_residual.ensures.1 in
    let (f, e) = enough_lost (memory c.args.bytes.now c.args.rows.now) c.args.room _ c.in_err-enough.ensures in
    let s = short (memory c.args.bytes.now c.args.rows.now) c.args.room (meaning (g.S.Source.content c.args.source.now)) f in
    rw (p.1, p.2, e) (record { same = refl; outcome = sym (ap (over length) s); form = rw s tt })

pub returns : goal.returns
returns g c =
    let w = memory c.args.bytes.now c.args.rows.now in
    let xs = meaning (g.S.Source.content c.args.source.now) in
    let (a, b) = enough_got (memory c.args.bytes.now c.args.rows.now) c.args.room _ c.in_ok-enough.ensures in
    let q : length (take (c.args.room - 0) c.args.bytes.now) ≡ c.args.room = omega (arith, a, length-take (c.args.room - 0) c.args.bytes.now) in
    let o = rw q at c.restate.ensures.answers in
    let l : length c.restate.new.out ≡ c.args.room = omega (arith, q, c.restate.auto.out) in
    record {
      same = c.restate.ensures.same;
      outcome = o ∙ outcome w c.args.room xs a b;
      form = front w c.args.room xs _ _ a b l (rw o at c.restate.ensures.writes);
    }
