use Rattle.promise.proofs.worked_runs.Goals as goal
use Rattle.promise.proofs.Evaluated.{worked_runs}

pub returns : goal.returns
returns c = worked_runs
