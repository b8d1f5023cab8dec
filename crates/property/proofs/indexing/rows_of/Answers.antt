use Rattle.std.proofs.Common.{◌+◌, ◌-◌, [], ◌∷◌, ◌++◌, ◌∙◌, arith}
use Rattle.std.proofs.lemmas.Result.{err_from_is_err_and}
use Rattle.property.specs.Fields.{at}
use Rattle.property.proofs.Carrying.{front_more, front_lost, front_all, count_added, carried_more}
use Rattle.property.proofs.indexing.rows_of.Goals as goal

pub loop-i-preserved : goal.loop-i-preserved
loop-i-preserved g c =
    let i = c.loop-i.invariant in
    let q = c.in_ok-listed.ensures in
    let (row, p, is, carries, fits, added) = rw i.same at q.reads in
    let (ps, read, carried) = i.read in
    let d = c.args.count - (c.loop-i.i + 1) in
    record {
      same = q.same ∙ i.same;
      within = q.within;
      few = omega (arith, count_added c.in_ok-listed.listed.count c.loop-i.listed.count c.loop-i.lent c.add_at.new.lent row fits added);
      read = (ps ++ p ∷ [], read ∙ front_more _ _ d _ _ (at p _) (omega arith) is, carried_more _ _ _ _ ps _ _ carried carries added);
    }

pub returns-in_err-listed-clause-reads : goal.returns-in_err-listed-clause-reads
returns-in_err-listed-clause-reads g c =
    let p = err_from_is_err_and c.from_residual.result c.from_residual.ensures.1 in
    let i = c.loop-i.invariant in
    let d = c.args.count - (c.loop-i.i + 1) in
    rw (p.1, p.2) (i.read.1 ∙ front_lost _ _ d _ _ _ (omega arith) (rw i.same at c.in_err-listed.ensures.reads))

pub returns-clause-reads : goal.returns-clause-reads
returns-clause-reads g c =
    let (ps, read, carried) = c.loop-i.invariant.read in
    (ps, read ∙ front_all _ _ _ _ (omega arith), omega arith, carried)
