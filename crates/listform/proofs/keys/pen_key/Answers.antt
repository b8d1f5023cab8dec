use Rattle.pen.proofs.Pens.{◌▷◌}
use Rattle.property.specs.Writing.{write_key}
use Rattle.listform.proofs.keys.pen_key.Goals as goal

pub returns-in-Tag : goal.returns-in-Tag
unfolding write_key
returns-in-Tag c = rw c.in-Tag.is c.put_le.ensures

pub returns-in-Numbered : goal.returns-in-Numbered
unfolding write_key
returns-in-Numbered c =
    rw c.in-Numbered.is (c.put_le-in-Numbered.ensures ▷ (c.put.ensures ▷ (c.put_le-in-Numbered-2.ensures ▷ c.put_le-in-Numbered-3.ensures)))

pub returns-in-Named : goal.returns-in-Named
unfolding write_key
returns-in-Named c =
    rw (c.in-Named.is, ← c.text-text.ensures.value)
    (c.put_le-in-Named.ensures ▷ (c.put-in-Named.ensures ▷ (c.put_le-in-Named-2.ensures ▷ (c.put_le-in-Named-3.ensures ▷ c.pen_filled.ensures))))
