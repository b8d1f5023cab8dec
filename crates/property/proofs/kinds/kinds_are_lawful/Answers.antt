use Rattle.property.proofs.LawsOfKinds.{lawful}
use Rattle.property.proofs.kinds.kinds_are_lawful.Goals as goal

pub returns : goal.returns
returns c = lawful
