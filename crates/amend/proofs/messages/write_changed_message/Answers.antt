use Rattle.std.proofs.Common.{sym, ◌∙◌, subst}
use Rattle.std.specs.List.{AllByRecursion}
use Rattle.pen.proofs.Pens.{◌▷◌}
use Rattle.form.specs.Holdings.{Plain}
use Rattle.form.proofs.Tells.{message_plain, message_listed}
use Rattle.amend.specs.Parts.{message_after}
use Rattle.amend.proofs.Moves.{listing_moved, rowing_moved, list_moved, table_moved}
use Rattle.amend.proofs.messages.write_changed_message.Goals as goal

pub write_changed_attributes-requires-clause-simple : goal.write_changed_attributes-requires-clause-simple
write_changed_attributes-requires-clause-simple g c = subst (λ t. AllByRecursion Plain t) (sym c.message_table.ensures) message_plain

pub write_changed_properties-requires-clause-listed : goal.write_changed_properties-requires-clause-listed
write_changed_properties-requires-clause-listed g c = message_listed

pub returns-clause-value : goal.returns-clause-value
unfolding message_after
returns-clause-value g c =
    let a = c.write_changed_attributes.ensures in
    let r = c.write_changed_recipients.ensures in
    let p = c.write_changed_properties.ensures in
    λ τ m ρ n.
    (rw c.message_table.ensures at (a.value τ.slot m.slot))
    ▷ (table_moved a.same c.args.rows.now ρ (r.value ρ (rowing_moved a.kept c.args.rowing ρ n))
    ▷ list_moved (r.same ∙ a.same) c.args.rows.now _ τ.listing (p.value τ.listing (listing_moved (r.kept ∙ a.kept) c.args.touch.listing τ.listing m.listing)))
