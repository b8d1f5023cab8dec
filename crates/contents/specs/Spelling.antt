-- The pairs of classes as the code's table has them.
use Rattle.contents.specs.declared.classes.Pair.{Pair}
use Rattle.contents.specs.Classes as classes

abbrev pub spelled : Pair → classes.Pair
spelled p = (p.attribute.now, p.property.now)
