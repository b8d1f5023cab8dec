use Rattle.message.proofs.forms_decide.Goals as goal
use Rattle.message.proofs.Forms.{forms_decide}

pub returns : goal.returns
returns c = forms_decide
