use Rattle.std.proofs.Common.{◌≡◌, suc, ◌+◌, ◌-◌, ◌∙◌, arith}
use Rattle.source.specs.Content.{meaning}
use Rattle.pen.proofs.Pens.{◌▷◌, leads_on, leads_end}
use Rattle.property.specs.Fields.{padded}
use Rattle.listform.specs.Forms.{fixed_form, fixed_next}
use Rattle.listform.proofs.ValueForms.{fixed_filled}
use Rattle.listform.proofs.WalkSteps.{within_now, within_more, walked_more, walked_none}
use Rattle.listform.proofs.values.fixed_run.Goals as goal

pub loop-preserved : goal.loop-preserved
loop-preserved g c =
    let i = c.loop.invariant in
    let q = c.write_fixed.ensures in
    let d = c.args.count - (c.loop.counter + 1) in
    let n : c.args.count - c.loop.counter ≡ suc d = omega arith in
    let xs = meaning (g.S.Source.content c.args.source.now) in
    let w = within_now _ _ _ _ (omega arith) i.1 in
    let pad : c.gap-pad.result ≡ padded c.args.size - c.args.size = rw c.from-wide.ensures at c.gap-pad.ensures in
    let filled = fixed_filled xs c.args.kind c.args.size c.loop.read c.gap-pad.result c.requires.0 (omega (arith, w)) pad in
    let on : c.loop.read + (c.from-wide.result + c.gap-pad.result) ≡ fixed_next c.args.size c.loop.read = omega (arith, c.from-wide.ensures, c.gap-pad.ensures) in
    (q.same ∙ i.0, within_more _ _ _ d _ _ n on i.1, leads_on {xs = fixed_form xs c.args.kind c.args.size c.loop.read} i.2 (walked_more _ _ _ d _ _ n on) (rw filled ((rw i.0 at q.value) ▷ c.put_zeros.ensures)))

pub returns-clause-value : goal.returns-clause-value
returns-clause-value g c = leads_end c.loop.invariant.2 (walked_none _ _ _ _ (omega arith))
