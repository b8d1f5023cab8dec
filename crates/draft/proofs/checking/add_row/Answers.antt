use Rattle.std.proofs.Common.{[], arith}
use Rattle.std.proofs.lemmas.Bool.{lt-ltb, le-ltb}
use Rattle.editing.specs.Amendments as spec
use Rattle.draft.proofs.Ends.{row_full, row_put}
use Rattle.draft.proofs.checking.add_row.Goals as goal

pub returns-then-count : goal.returns-then-count
returns-then-count g c =
    let h = c.count_rows-count.ensures in
    record { same = h.same; checks = row_full _ (le-ltb _ _ (rw h.value at c.if-count.true)) }

pub returns : goal.returns
returns g c =
    let h = c.count_rows-count.ensures in
    record { same = h.same; checks = (_, c.to_rows.ensures [] spec.row_added tt, row_put _ (lt-ltb _ _ (rw h.value at c.if-count.false)), omega arith) }
