use Rattle.std.proofs.Common.{sym, ◌∙◌, subst}
use Rattle.std.specs.List.{AllByRecursion}
use Rattle.pen.proofs.Pens.{◌▷◌}
use Rattle.form.specs.Holdings.{Plain}
use Rattle.form.proofs.Tells.{rendering_plain, attachment_plain, attachment_listed}
use Rattle.amend.proofs.Moves.{slot_moved, listing_moved, list_moved}
use Rattle.amend.proofs.Touching.{attachment_parted}
use Rattle.amend.proofs.touches.write_touched_attachment.Goals as goal

pub write_changed_attribute-requires-clause-simple : goal.write_changed_attribute-requires-clause-simple
write_changed_attribute-requires-clause-simple g c = rendering_plain

pub write_changed_attributes-requires-clause-simple : goal.write_changed_attributes-requires-clause-simple
write_changed_attributes-requires-clause-simple g c = subst (λ t. AllByRecursion Plain t) (sym c.attachment_table.ensures) attachment_plain

pub write_changed_properties-requires-clause-listed : goal.write_changed_properties-requires-clause-listed
write_changed_properties-requires-clause-listed g c = attachment_listed

pub returns-clause-value : goal.returns-clause-value
returns-clause-value g c =
    let r = c.write_changed_attribute.ensures in
    let a = c.write_changed_attributes.ensures in
    let p = c.write_changed_properties.ensures in
    λ τ m. rw (attachment_parted _ _ τ)
    (r.value τ.slot m.slot
    ▷ ((rw (r.same, c.attachment_table.ensures) at (a.value τ.slot (slot_moved r.kept c.args.touch.slot τ.slot m.slot)))
    ▷ list_moved (a.same ∙ r.same) c.args.rows.now _ τ.listing (p.value τ.listing (listing_moved (a.kept ∙ r.kept) c.args.touch.listing τ.listing m.listing))))
