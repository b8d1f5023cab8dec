use Rattle.message.proofs.small_streams.Goals as goal
use Rattle.message.proofs.Evaluated.{examples}

pub returns : goal.returns
returns c = examples
