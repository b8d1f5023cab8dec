use Rattle.lookup.proofs.Saying.{says_message}
use Rattle.lookup.proofs.targets.message_rows.Goals as goal

pub returns-clause-value : goal.returns-clause-value
returns-clause-value g c = says_message _ _ _ _ c.requires.good c.gather.ensures.value c.gather.ensures.written
