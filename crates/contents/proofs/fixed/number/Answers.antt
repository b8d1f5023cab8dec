use Rattle.std.proofs.Common.{ℕ, ◌-◌, List, [], ◌∷◌, arith}
use native.Mathlib.Nat.{sub-zero}
use Rattle.std.proofs.lemmas.List.{length-take-le}
use Rattle.scan.proofs.Parts.{asked_got}
use Rattle.contents.proofs.Parts.{number_fetched}
use Rattle.contents.proofs.fixed.number.Goals as goal

pub returns-clause-value : goal.returns-clause-value
returns-clause-value g c =
    let h = c.in_ok-fetch.ensures in
    let l = (asked_got _ _ _ _ _ c.in_ok-reach.ensures).0 in
    let zeros : List ℕ = 0 ∷ (0 ∷ (0 ∷ (0 ∷ []))) in
    let w = length-take-le (c.args.width - 0) zeros (omega (arith, c.requires)) in
    number_fetched _ c.fetch.new.buffer _ _ _ _ _ l (omega arith) (omega (arith, w)) c.requires h.value.1 (rw sub-zero at c.from_le_bytes.ensures)
