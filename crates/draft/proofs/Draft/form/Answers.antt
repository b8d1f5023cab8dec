use Rattle.std.proofs.Common.{arith}
use Rattle.draft.proofs.Deciding.{taken}
use Rattle.draft.proofs.Draft.form.Goals as goal

-- The number that is taken is not named, so that a wrong one is refused as such.
pub returns : goal.returns
returns c = taken _ _ _ (omega arith)
