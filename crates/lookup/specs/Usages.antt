-- How a call may use an attribute.
use Rattle.std.specs.Prelude.{Bool}
use Rattle.editing.specs.Targets.{Use, may_put, may_drop}
use Rattle.lookup.specs.declared.names.Usage.{Usage}
use Rattle.lookup.specs.declared.names.Usage.TheVariants.{Put, Drop}

abbrev pub may : Usage → Use → Bool
may Put = may_put
may Drop = may_drop
