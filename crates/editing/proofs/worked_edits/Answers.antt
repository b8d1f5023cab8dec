use Rattle.editing.proofs.worked_edits.Goals as goal
use Rattle.editing.proofs.Evaluated.{worked}

pub returns : goal.returns
returns c = worked
