use Rattle.std.proofs.Common.{refl, sym, ◌∙◌, arith}
use Rattle.source.specs.Bytes.{val}
use Rattle.source.proofs.Outcomes.{ok_same}
use Rattle.scan.proofs.Parts.{asked_within}
use Rattle.listform.specs.Forms.{number_there}
use Rattle.listform.proofs.fields.number_at.Goals as goal

pub unwrap-requires : goal.unwrap-requires
unwrap-requires g c = rw (c.at.ensures.value ∙ asked_within val _ _ _ (omega arith)) refl

pub returns-clause-value : goal.returns-clause-value
unfolding number_there
returns-clause-value g c = ok_same _ _ (sym c.unwrap.ensures ∙ (c.at.ensures.value ∙ asked_within val _ _ _ c.requires))
