use Rattle.pen.proofs.Pens.{◌▷◌}
use Rattle.contents.specs.Contents.{normal}
use Rattle.contents.proofs.writing.pen_date.Goals as goal

pub returns : goal.returns
unfolding normal
returns c =
    (((((c.put_le.ensures ▷ c.put_le-2.ensures) ▷ c.put_le-3.ensures) ▷ c.put_le-4.ensures) ▷ c.put_le-5.ensures) ▷ c.put_le-6.ensures)
    ▷ (rw c.weekday.ensures at c.put_le-7.ensures)
