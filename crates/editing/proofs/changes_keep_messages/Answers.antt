use Rattle.editing.proofs.changes_keep_messages.Goals as goal
use Rattle.editing.proofs.Changes.{changes_keep}

pub returns : goal.returns
returns c = changes_keep
