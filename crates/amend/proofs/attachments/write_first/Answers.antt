use Rattle.std.proofs.Common.{◌≡◌, suc, ◌+◌, ◌-◌, ◌∙◌, arith}
use Rattle.pen.proofs.Pens.{leads_on, leads_end}
use Rattle.form.proofs.Beginnings.{past_rendered}
use Rattle.amend.proofs.Attached.{none_held, more_held, left_more, left_behind, left_none, left_empty}
use Rattle.amend.proofs.attachments.write_first.Goals as goal

pub loop-preserved : goal.loop-preserved
loop-preserved g c =
    let (same, kept, good, first, rest, leads) = c.loop.invariant in
    let n = c.write_next.ensures in
    let v = rw same at n.value in
    let more = more_held _ _ _ good first (omega (arith, c.if-at-total.false, c.len-total.ensures.value)) _ _ v.rest in
    let d = c.args.count - (c.loop.counter + 1) in
    let z : c.args.count - c.loop.counter ≡ suc d = omega arith in (
      n.same ∙ same,
      v.penned.kept ∙ kept,
      v.good,
      rw v.rest (past_rendered _),
      left_behind _ d _ _ _ _ z more rest,
      leads_on leads (left_more _ d _ _ _ z more) v.penned,
    )

pub returns-then-at-total-clause-value : goal.returns-then-at-total-clause-value
returns-then-at-total-clause-value g c =
    let (_, _, good, first, rest, leads) = c.loop.invariant in
    let (b, e) = left_empty _ _ _ (none_held _ _ _ good (omega (arith, c.if-at-total.true, c.len-total.ensures.value))) rest in
    record { penned = leads_end leads b; rest = e; good = good; rendered = first }

pub returns-after-loop-clause-value : goal.returns-after-loop-clause-value
returns-after-loop-clause-value g c =
    let (_, _, good, first, rest, leads) = c.loop.invariant in
    let (b, e) = left_none _ _ _ (omega arith) rest in
    record { penned = leads_end leads b; rest = e; good = good; rendered = first }
