use Rattle.std.proofs.Common.{◌+◌, ap, ◌∙◌, arith}
use Rattle.property.specs.Fields.{padded}
use Rattle.listform.specs.Forms.{number_there}
use Rattle.lookup.proofs.Asked.{some_got, none_lost}
use Rattle.lookup.proofs.values.value_end.Goals as goal

pub overflow_add-result : goal.overflow_add-result
overflow_add-result g c =
    let q = c.at.ensures in
    omega (arith, (some_got _ _ _ _ _ _ c.in_ok-size.ensures.value q.value).0, c.len-total.ensures.value, c.len-total.ensures.bound)

pub overflow_add-result-2 : goal.overflow_add-result-2
overflow_add-result-2 g c =
    let q = c.at.ensures in
    omega (arith, (some_got _ _ _ _ _ _ c.in_ok-size.ensures.value q.value).0, c.len-total.ensures.value, c.len-total.ensures.bound, c.padded.ensures)

pub returns-clause-value : goal.returns-clause-value
unfolding number_there
returns-clause-value g c =
    let q = c.at.ensures in
    ap (λ n. c.args.place + 4 + n) (c.padded.ensures ∙ ap padded (some_got _ _ _ _ _ _ c.in_ok-size.ensures.value q.value).1)

pub returns-in_err-size-clause-value : goal.returns-in_err-size-clause-value
returns-in_err-size-clause-value g c =
    let q = c.at.ensures in
    rw c.from_residual.ensures (none_lost _ _ _ _ _ c.in_err-size.ensures.value q.value)
