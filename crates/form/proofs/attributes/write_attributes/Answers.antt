use Rattle.std.proofs.Common.{◌∙◌}
use Rattle.pen.proofs.Pens.{leads_on, leads_end}
use Rattle.form.proofs.Holds.{attributes_more, attributes_none}
use Rattle.form.proofs.attributes.write_attributes.Goals as goal

pub loop-attribute-preserved : goal.loop-attribute-preserved
loop-attribute-preserved g c =
    let i = c.loop-attribute.invariant in
    let h = c.write_attribute.ensures in (
      h.same ∙ i.0,
      h.value.kept ∙ i.1,
      leads_on i.2 (attributes_more _ _ c.args.table.now c.loop-attribute.attribute-index _ c.loop-attribute-test.true) (rw i.0 at h.value),
    )

pub returns-clause-value : goal.returns-clause-value
returns-clause-value g c =
    leads_end c.loop-attribute.invariant.2 (attributes_none _ _ c.args.table.now c.loop-attribute.attribute-index c.loop-attribute-test.false)
