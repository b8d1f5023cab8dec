use Rattle.message.proofs.streams_by_grammar.Goals as goal
use Rattle.message.proofs.Streams.{by_grammar}

pub returns : goal.returns
returns c = by_grammar
