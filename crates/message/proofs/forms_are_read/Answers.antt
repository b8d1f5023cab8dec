use Rattle.message.proofs.forms_are_read.Goals as goal
use Rattle.message.proofs.Forms.{forms_read}

pub returns : goal.returns
returns c = forms_read
