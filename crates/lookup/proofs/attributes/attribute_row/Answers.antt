use Rattle.std.proofs.Common.{refl}
use Rattle.lookup.proofs.Saying.{says_contents, says_held, says_normal}
use Rattle.lookup.proofs.attributes.attribute_row.Goals as goal

pub returns-in-Message-clause-value : goal.returns-in-Message-clause-value
returns-in-Message-clause-value g c p =
    rw c.in-Message.is (says_contents _ _ _ _ c.message_rows.ensures.value.own c.args.attribute p _ c.under.ensures)

pub returns-in-Message-clause-normal : goal.returns-in-Message-clause-normal
returns-in-Message-clause-normal g c w p =
    rw c.in-Message.is (says_normal _ _ _ _ _ refl c.message_rows.ensures.value.own w c.args.attribute p _ c.under.ensures)

pub returns-in_ok-attachment_rows-in-Attachment-clause-value : goal.returns-in_ok-attachment_rows-in-Attachment-clause-value
returns-in_ok-attachment_rows-in-Attachment-clause-value g c p =
    let (h, e, s) = c.in_ok-attachment_rows-in-Attachment.ensures.value in
    rw c.in-Attachment.is (says_held _ _ _ _ h e s c.args.attribute p _ c.under-in-Attachment.ensures)

pub returns-in_ok-attachment_rows-in-Attachment-clause-normal : goal.returns-in_ok-attachment_rows-in-Attachment-clause-normal
returns-in_ok-attachment_rows-in-Attachment-clause-normal g c w p =
    let (h, e, s) = c.in_ok-attachment_rows-in-Attachment.ensures.value in
    rw c.in-Attachment.is (says_normal _ _ _ _ h e s w c.args.attribute p _ c.under-in-Attachment.ensures)
