use Rattle.std.proofs.Common.{sym}
use Rattle.lookup.specs.Usages.{may}
use Rattle.lookup.proofs.Naming.{unknown, unlevel, barred, named, level_other, level_same}
use Rattle.lookup.proofs.names.attribute_for.Goals as goal

pub returns-in_default : goal.returns-in_default
returns-in_default c = unknown _ _ _ c.in_default.ensures

pub returns-then-ne : goal.returns-then-ne
returns-then-ne c =
    let a = c.in-Some.attribute in
    unlevel _ _ _ a c.in-Some.ensures (level_other _ _ (may c.args.usage) _ a c.level_of.ensures c.in-Some.ensures c.if-ne.ensures)

pub returns-then-not-allowed : goal.returns-then-not-allowed
returns-then-not-allowed c =
    let a = c.in-Some.attribute in
    barred _ _ (may c.args.usage) a c.in-Some.ensures (level_same _ c.args.id (may c.args.usage) _ a c.level_of.ensures c.if-ne.ensures) (sym c.if-not-allowed.ensures)

pub returns : goal.returns
returns c =
    let a = c.in-Some.attribute in
    named _ _ (may c.args.usage) a c.in-Some.ensures (level_same _ c.args.id (may c.args.usage) _ a c.level_of.ensures c.if-ne.ensures) (sym c.if-not-allowed.ensures)
