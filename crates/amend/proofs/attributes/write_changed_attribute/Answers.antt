use Rattle.std.proofs.Common.{◌≡◌}
use Rattle.source.specs.Content.{meaning}
use Rattle.pen.proofs.Pens.{pen_none}
use Rattle.amend.specs.declared.changes.Slot.TheVariants.{Kept}
use Rattle.amend.proofs.Slots.{put_admitted, put_after, dropped_after, beside_put, beside_dropped, all_kept}
use Rattle.amend.proofs.attributes.write_changed_attribute.Goals as goal
use Rattle.amend.proofs.attributes.write_changed_attribute.Goals.{in_default-via-in-Put+else-put-attribute, in_default-via-in-Dropped+else-id-attribute, in_default-via-in_default}

pub write_input-requires-clause-good : goal.write_input-requires-clause-good
write_input-requires-clause-good g c =
    let (σ, m) = c.requires.meant in put_admitted _ c.args.attribute c.requires.simple _ σ (rw c.in-Put.is at m) c.if-put-attribute.true

pub returns-in-Put-clause-value : goal.returns-in-Put-clause-value
returns-in-Put-clause-value g c = λ σ m.
    rw (put_after _ c.args.attribute c.requires.simple _ _ _ σ (rw c.in-Put.is at m) c.if-put-attribute.true) c.write_input.ensures.value

pub returns-in-Dropped-clause-value : goal.returns-in-Dropped-clause-value
returns-in-Dropped-clause-value g c =
    let xs = meaning (g.S.Source.content c.args.source.now) in
    let ys = meaning (g.T.Source.content c.args.input.now) in
    λ σ m. rw (dropped_after ys c.args.attribute c.requires.simple xs c.args.rows.now _ σ (rw c.in-Dropped.is at m) c.if-id-attribute.true) pen_none

pub returns-in_default-clause-value : goal.returns-in_default-clause-value
returns-in_default-clause-value g c =
    let xs = meaning (g.S.Source.content c.args.source.now) in
    let ys = meaning (g.T.Source.content c.args.input.now) in
    let a = c.args.attribute in
    let rows = c.args.rows.now in
    λ σ m. elim c.in_default.branch [
      | in_default-via-in-Put+else-put-attribute w ↦ rw (beside_put ys a c.requires.simple xs rows _ σ (rw w.in-Put.is at m) w.if-put-attribute.false) c.write_attribute.ensures.value
      | in_default-via-in-Dropped+else-id-attribute w ↦ rw (beside_dropped ys a c.requires.simple xs rows _ σ (rw w.in-Dropped.is at m) w.if-id-attribute.false) c.write_attribute.ensures.value
      | in_default-via-in_default w ↦
          let k : c.args.slot ≡ Kept = w.in_default.is in rw (all_kept ys a c.requires.simple xs rows σ (rw k at m)) c.write_attribute.ensures.value
    ]
