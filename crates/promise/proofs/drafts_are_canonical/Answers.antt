use Rattle.promise.proofs.drafts_are_canonical.Goals as goal
use Rattle.promise.proofs.Canon.{canonical}

pub returns : goal.returns
returns c = canonical
