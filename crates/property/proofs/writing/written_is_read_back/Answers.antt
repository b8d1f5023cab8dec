use Rattle.property.proofs.ReadBack.{read_back}
use Rattle.property.proofs.writing.written_is_read_back.Goals as goal

pub returns : goal.returns
returns c = read_back
