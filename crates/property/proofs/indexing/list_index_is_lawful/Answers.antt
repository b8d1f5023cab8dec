use Rattle.std.proofs.Common.{false, sym, ◌∙◌}
use Rattle.index.proofs.Keeping.{lawful}
use Rattle.index.specs.SameKeys.{key_itself, same_key_true, same_key_from}
use Rattle.property.specs.Lists.{same_property}
use Rattle.property.proofs.indexing.list_index_is_lawful.Goals as goal

pub returns : goal.returns
returns c =
    lawful same_property (λ p. key_itself p.key)
    (λ p q e. same_key_from q.key p.key (sym (same_key_true p.key q.key e)))
    (λ p q r e f. same_key_from p.key r.key (same_key_true p.key q.key e ∙ same_key_true q.key r.key f))
    false
