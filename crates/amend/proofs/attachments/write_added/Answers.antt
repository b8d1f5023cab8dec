use Rattle.pen.proofs.Pens.{◌▷◌}
use Rattle.amend.proofs.Attached.{all_bytes, bytes_append, bare_framed, bare_admitted}
use Rattle.amend.proofs.attachments.write_added.Goals as goal

pub write_input-requires-clause-good : goal.write_input-requires-clause-good
write_input-requires-clause-good g c = let (d, m) = c.requires.meant in bare_admitted _ d m

pub returns-clause-value : goal.returns-clause-value
returns-clause-value g c = λ d m.
    rw (bytes_append, bare_framed _ d m) ((rw all_bytes at c.write_attachments.ensures.value) ▷ c.write_input.ensures.value)
