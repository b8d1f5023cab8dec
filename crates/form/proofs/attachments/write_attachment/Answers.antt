use Rattle.std.proofs.Common.{sym, ◌∙◌, subst}
use Rattle.std.specs.List.{AllByRecursion}
use Rattle.pen.proofs.Pens.{◌▷◌}
use Rattle.form.specs.Holdings.{Plain, attachment_bytes}
use Rattle.form.proofs.Tells.{rendering_plain, attachment_plain, attachment_listed}
use Rattle.form.proofs.attachments.write_attachment.Goals as goal

pub write_attribute-requires-clause-simple : goal.write_attribute-requires-clause-simple
write_attribute-requires-clause-simple g c = rendering_plain

pub write_attributes-requires-clause-simple : goal.write_attributes-requires-clause-simple
write_attributes-requires-clause-simple g c = subst (λ t. AllByRecursion Plain t) (sym c.attachment_table.ensures) attachment_plain

pub write_properties-requires-clause-listed : goal.write_properties-requires-clause-listed
write_properties-requires-clause-listed g c = attachment_listed

pub returns-clause-value : goal.returns-clause-value
unfolding attachment_bytes
returns-clause-value g c =
    let r = c.write_attribute.ensures in
    let a = c.write_attributes.ensures in
    r.value ▷ ((rw (r.same, c.attachment_table.ensures) at a.value) ▷ (rw (a.same ∙ r.same) at c.write_properties.ensures.value))
