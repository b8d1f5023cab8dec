use Rattle.std.proofs.Common.{◌+◌, ◌-◌, refl, ap, ◌∙◌, arith}
use native.Mathlib.Nat.{sub-zero}
use Rattle.source.specs.Content.{meaning}
use Rattle.amend.specs.Tables.{turns_to}
use Rattle.amend.proofs.Turns.{turn_there, left_more, left_lost, left_none}
use Rattle.amend.proofs.tables.write_turns.Goals as goal

pub loop-i-init : goal.loop-i-init
loop-i-init g c = (refl, refl, λ ρ m a f. (a, rw sub-zero f, λ after p. p))

pub write_turn-requires-clause-within : goal.write_turn-requires-clause-within
write_turn-requires-clause-within g c = rw c.loop-i.invariant.0 c.requires.within

pub write_turn-requires-clause-meant : goal.write_turn-requires-clause-meant
write_turn-requires-clause-meant g c =
    let (ρ, m) = c.requires.meant in
    (turns_to ρ c.loop-i.i, turn_there _ _ (ap meaning c.loop-i.invariant.1) _ c.args.rowing ρ c.loop-i.i c.turn_of-turn.ensures m)

pub returns-in_default-clause-value : goal.returns-in_default-clause-value
returns-in_default-clause-value g c =
    let i = c.loop-i.invariant in
    left_lost _ _ c.args.rowing _ _ _ _ _ (ap meaning i.1) c.loop-i.i _ (c.args.table.count - (c.loop-i.i + 1)) _ c.loop-i.pen _ _ c.turn_of-turn.ensures (omega arith) i.2
    (rw i.0 at c.in_default.ensures.value)

pub loop-i-preserved : goal.loop-i-preserved
loop-i-preserved g c =
    let i = c.loop-i.invariant in
    let q = c.in-Some.ensures in
    (q.same ∙ i.0, q.kept ∙ i.1, left_more _ _ c.args.rowing _ _ _ _ _ (ap meaning i.1) c.loop-i.i _ _ _ c.loop-i.pen _ _ _ c.turn_of-turn.ensures (omega arith) i.2 (rw i.0 at q.value))

pub returns-clause-value : goal.returns-clause-value
returns-clause-value g c = let i = c.loop-i.invariant in left_none _ _ c.args.rowing _ _ _ _ c.loop-i.i _ _ _ (omega arith) i.2
