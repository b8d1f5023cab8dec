use Rattle.form.proofs.Framings.{pen_closable, pen_frame}
use Rattle.form.proofs.attributes.write_row.Goals as goal

pub pen_close-requires-clause-closable : goal.pen_close-requires-clause-closable
pen_close-requires-clause-closable g c = pen_closable c.pen_open-start.ensures (c.write_normal.ensures.value c.requires.good)

pub returns-clause-value : goal.returns-clause-value
returns-clause-value g c = pen_frame c.pen_open-start.ensures (c.write_normal.ensures.value c.requires.good) c.pen_close.ensures
