use Rattle.std.proofs.Common.{◌∙◌}
use Rattle.pen.proofs.Pens.{leads_on, leads_end}
use Rattle.amend.proofs.Moves.{slot_moved}
use Rattle.amend.proofs.Slots.{after_more, after_none}
use Rattle.amend.proofs.attributes.write_changed_attributes.Goals as goal

pub write_changed_attribute-requires-clause-meant : goal.write_changed_attribute-requires-clause-meant
write_changed_attribute-requires-clause-meant g c =
    let (_, kept, _, _) = c.loop-attribute.invariant in
    let (σ, m) = c.requires.meant in (σ, slot_moved kept c.args.slot σ m)

pub loop-attribute-preserved : goal.loop-attribute-preserved
loop-attribute-preserved g c =
    let (same, kept, long, leads) = c.loop-attribute.invariant in
    let h = c.write_changed_attribute.ensures in
    let (σ, m) = c.requires.meant in (
      h.same ∙ same,
      h.kept ∙ kept,
      (h.value σ (slot_moved kept c.args.slot σ m)).kept ∙ long,
      λ σ m. leads_on (leads σ m) (after_more _ _ σ c.args.table.now c.loop-attribute.attribute-index _ c.loop-attribute-test.true)
          (rw same at (h.value σ (slot_moved kept c.args.slot σ m))),
    )

pub returns-clause-value : goal.returns-clause-value
returns-clause-value g c =
    let (_, _, _, leads) = c.loop-attribute.invariant in
    λ σ m. leads_end (leads σ m) (after_none _ _ σ c.args.table.now c.loop-attribute.attribute-index c.loop-attribute-test.false)
