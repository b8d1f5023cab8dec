use Rattle.std.proofs.Common.{◌≡◌, suc, ◌+◌, ◌-◌, ◌∙◌, arith}
use Rattle.source.specs.Content.{meaning}
use Rattle.pen.proofs.Pens.{leads_on, leads_end}
use Rattle.listform.specs.Forms.{number_there, sized_form, sized_next}
use Rattle.listform.proofs.WalkSteps.{within_more, walked_more, walked_none}
use Rattle.listform.proofs.values.sized_run.Goals as goal

pub loop-preserved : goal.loop-preserved
unfolding sized_form
loop-preserved g c =
    let i = c.loop.invariant in
    let h = c.number_at-size.ensures in
    let q = c.write_sized.ensures in
    let d = c.args.count - (c.loop.counter + 1) in
    let n : c.args.count - c.loop.counter ≡ suc d = omega arith in
    let v : c.number_at-size.result ≡ number_there (meaning (g.S.Source.content c.args.source.now)) c.loop.read = rw i.0 at h.value in
    let on : c.loop.read + (4 + c.number_at-size.result + c.gap.result) ≡ sized_next (meaning (g.S.Source.content c.args.source.now)) c.loop.read = omega (arith, v, c.gap.ensures) in
    (q.same ∙ (h.same ∙ i.0), within_more _ _ _ d _ _ n on i.1, leads_on i.2 (walked_more _ _ _ d _ _ n on) (rw (h.same, i.0, v) at q.value))

pub returns-clause-value : goal.returns-clause-value
returns-clause-value g c = leads_end c.loop.invariant.2 (walked_none _ _ _ _ (omega arith))
