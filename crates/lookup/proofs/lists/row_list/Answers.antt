use Rattle.std.proofs.Common.{◌<◌, ◌≤◌, length, ap, ◌∙◌, arith}
use Rattle.source.specs.Content.{meaning}
use Rattle.message.specs.Sameness.{nth}
use Rattle.listform.proofs.ListForms.{list_refused}
use Rattle.lookup.proofs.Asked.{ok_is, err_is, some_got, none_lost}
use Rattle.lookup.proofs.Passing.{nth_past}
use Rattle.lookup.proofs.Saying.{recipients_held, table_told, table_lost}
use Rattle.lookup.proofs.Listing.{list_there, carrying_list}
use Rattle.lookup.proofs.lists.row_list.Goals as goal

pub returns-in_err-row-clause-value : goal.returns-in_err-row-clause-value
returns-in_err-row-clause-value g c =
    let xs = meaning (g.S.Source.content c.args.source.now) in
    rw c.from_residual.ensures (ap (λ l. nth l c.args.number) (table_lost xs c.args.rows.now c.in_err-row.ensures))

pub returns-in_err-count-clause-value : goal.returns-in_err-count-clause-value
returns-in_err-count-clause-value g c =
    let xs = meaning (g.S.Source.content c.args.source.now) in
    let (ts, h) = recipients_held xs c.args.rows.now c.requires.sound c.in_ok-row.row c.in_ok-row.ensures in
    absurd (omega (arith, none_lost _ xs _ _ _ c.in_err-count.ensures.value c.at.ensures.value, h.room))

pub returns-then-number-count-clause-value : goal.returns-then-number-count-clause-value
returns-then-number-count-clause-value g c =
    let xs = meaning (g.S.Source.content c.args.source.now) in
    let (ts, h) = recipients_held xs c.args.rows.now c.requires.sound c.in_ok-row.row c.in_ok-row.ensures in
    let k = c.at.ensures in
    let n : length ts ≤ c.args.number = omega (arith, (some_got _ xs _ _ _ _ c.in_ok-count.ensures.value k.value).1, h.counted, c.if-number-count.true) in
    ap (λ l. nth l c.args.number) (table_told xs c.args.rows.now ts h.told) ∙ nth_past ts c.args.number n

pub overflow_add-end : goal.overflow_add-end
overflow_add-end g c =
    let (_, h) = recipients_held (meaning (g.S.Source.content c.args.source.now)) c.args.rows.now c.requires.sound c.in_ok-row.row c.in_ok-row.ensures in
    omega (arith, h.within, c.len-total.ensures.value, c.len-total.ensures.bound)

pub overflow_add-row : goal.overflow_add-row
overflow_add-row g c =
    let (_, h) = recipients_held (meaning (g.S.Source.content c.args.source.now)) c.args.rows.now c.requires.sound c.in_ok-row.row c.in_ok-row.ensures in
    omega (arith, h.room, c.len-total.ensures.value, c.len-total.ensures.bound)

pub list_start-start-requires : goal.list_start-start-requires
list_start-start-requires g c =
    let (_, h) = recipients_held (meaning (g.S.Source.content c.args.source.now)) c.args.rows.now c.requires.sound c.in_ok-row.row c.in_ok-row.ensures in
    rw c.at.ensures.same h.within

pub returns-clause-value : goal.returns-clause-value
returns-clause-value g c =
    let xs = meaning (g.S.Source.content c.args.source.now) in
    let (ts, h) = recipients_held xs c.args.rows.now c.requires.sound c.in_ok-row.row c.in_ok-row.ensures in
    let k = c.at.ensures in
    let s = c.list_start-start.ensures in
    let q = c.rows.ensures in
    let n : c.args.number < length ts = omega (arith, (some_got _ xs _ _ _ _ c.in_ok-count.ensures.value k.value).1, h.counted, c.if-number-count.false) in
    let (a, is, there) = list_there xs _ _ ts h.reads c.args.number _ n (rw k.same at s.value) in (
      _,
      ap (λ l. nth l c.args.number) (table_told xs c.args.rows.now ts h.told) ∙ there,
      carrying_list xs _ _ _ h.within c.requires.room a is _ _ (rw (ok_is _ _ c.in_ok-listed.ensures.value, s.same ∙ k.same) at q.reads),
    )

pub returns-in_err-listed-clause-value : goal.returns-in_err-listed-clause-value
returns-in_err-listed-clause-value g c =
    let xs = meaning (g.S.Source.content c.args.source.now) in
    let (ts, h) = recipients_held xs c.args.rows.now c.requires.sound c.in_ok-row.row c.in_ok-row.ensures in
    let k = c.at.ensures in
    let s = c.list_start-start.ensures in
    let q = c.rows.ensures in
    let n : c.args.number < length ts = omega (arith, (some_got _ xs _ _ _ _ c.in_ok-count.ensures.value k.value).1, h.counted, c.if-number-count.false) in
    let (a, is, _) = list_there xs _ _ ts h.reads c.args.number _ n (rw k.same at s.value) in
    let (x, lost) = err_is _ c.in_err-listed.ensures.value in
    absurd (list_refused xs _ _ _ h.within c.requires.room c.rows.new.lent x (rw (lost, s.same ∙ k.same) at q.reads) a is)
