use Rattle.std.proofs.Common.{◌≡◌, ℕ, min, cond, not, eqb, refl, sym, ap, ◌∙◌, arith}
use Rattle.std.proofs.lemmas.Bool.Decides.{nat_tests}
use Rattle.source.specs.Bytes.{val}
use Rattle.source.proofs.Outcomes.{ok_same}
use Rattle.scan.proofs.Parts.{asked_within}
use Rattle.listform.proofs.fields.flag_at.Goals as goal

flag_of : (n : ℕ) → min n 1 ≡ cond (not (eqb n 0)) 1 0
flag_of n = grind (arith, nat_tests)

pub unwrap-requires : goal.unwrap-requires
unwrap-requires g c = rw (c.at.ensures.value ∙ asked_within val _ _ _ (omega arith)) refl

pub returns-clause-value : goal.returns-clause-value
returns-clause-value g c =
    let n = ok_same _ _ (sym c.unwrap.ensures ∙ (c.at.ensures.value ∙ asked_within val _ _ _ c.requires)) in
    c.min.ensures ∙ (flag_of c.unwrap.result ∙ ap (λ n. cond (not (eqb n 0)) 1 0) n)
