use Rattle.correspondence.proofs.Groups.{groups_decide}
use Rattle.correspondence.proofs.Correspondence.count.Goals as goal

pub returns-clause-messages : goal.returns-clause-messages
returns-clause-messages c = groups_decide
