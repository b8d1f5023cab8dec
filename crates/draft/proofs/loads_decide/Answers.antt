use Rattle.draft.proofs.Deciding.{loads_decide}
use Rattle.draft.proofs.loads_decide.Goals as goal

pub returns : goal.returns
returns c = loads_decide
