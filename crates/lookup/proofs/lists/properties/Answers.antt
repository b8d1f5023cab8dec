use Rattle.std.proofs.Common.{refl}
use Rattle.form.proofs.Tells.{message_listed, attachment_listed}
use Rattle.lookup.proofs.Listing.{carrying_indexed, row_carried}
use Rattle.lookup.proofs.lists.properties.Goals as goal

pub index_list-requires-clause-listed : goal.index_list-requires-clause-listed
index_list-requires-clause-listed g c = message_listed

pub index_list-requires-in-Attachment-clause-listed : goal.index_list-requires-in-Attachment-clause-listed
index_list-requires-in-Attachment-clause-listed g c = attachment_listed

pub returns-in-Message-clause-value : goal.returns-in-Message-clause-value
returns-in-Message-clause-value g c =
    let t = c.message_rows-rows.ensures in
    let i = c.index_list.ensures in
    rw c.in-Message.is (_, refl, rw (← t.value.own.properties, ← t.same, ← c.as_slice.ensures) (carrying_indexed _ _ _ _ i.within i.value))

pub returns-in-Row-clause-value : goal.returns-in-Row-clause-value
returns-in-Row-clause-value g c =
    let t = c.message_rows-rows-in-Row.ensures in
    rw c.in-Row.is (row_carried _ _ _ _ t.value.table c.in-Row.number _ (rw t.same at c.row_list.ensures.value))

pub returns-in_ok-rows-in-Attachment-clause-value : goal.returns-in_ok-rows-in-Attachment-clause-value
returns-in_ok-rows-in-Attachment-clause-value g c =
    let (h, e, s) = c.in_ok-rows-in-Attachment.ensures.value in
    let i = c.index_list-in-Attachment.ensures in
    rw c.in-Attachment.is (h, e, rw (← s.properties, ← c.in_ok-rows-in-Attachment.ensures.same, ← c.as_slice-in-Attachment.ensures) (carrying_indexed _ _ _ _ i.within i.value))
