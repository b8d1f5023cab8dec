use Rattle.std.proofs.Common.{sym, ◌∙◌, subst}
use Rattle.std.specs.List.{AllByRecursion}
use Rattle.pen.proofs.Pens.{◌▷◌}
use Rattle.form.specs.Holdings.{Plain, message_bytes}
use Rattle.form.proofs.Tells.{message_plain, message_listed}
use Rattle.form.proofs.messages.write_message.Goals as goal

pub write_attributes-requires-clause-simple : goal.write_attributes-requires-clause-simple
write_attributes-requires-clause-simple g c = subst (λ t. AllByRecursion Plain t) (sym c.message_table.ensures) message_plain

pub write_properties-requires-clause-listed : goal.write_properties-requires-clause-listed
write_properties-requires-clause-listed g c = message_listed

pub returns-clause-value : goal.returns-clause-value
unfolding message_bytes
returns-clause-value g c =
    let a = c.write_attributes.ensures in
    let r = c.write_recipients.ensures in
    (rw c.message_table.ensures at a.value) ▷ ((rw a.same at r.value) ▷ (rw (r.same ∙ a.same) at c.write_properties.ensures.value))
