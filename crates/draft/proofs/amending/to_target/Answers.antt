use Rattle.std.proofs.Common.{refl}
use Rattle.draft.proofs.amending.to_target.Goals as goal

pub returns-in-Row : goal.returns-in-Row
returns-in-Row c ys s h = rw c.in-Row.is (c.to_rows.ensures ys _ (refl, h.listing))

pub returns-in-Attachment : goal.returns-in-Attachment
returns-in-Attachment c ys s h = rw c.in-Attachment.is (c.to_attachments.ensures ys _ (refl, h))
