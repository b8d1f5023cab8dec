use Rattle.std.proofs.Common.{Some, ap}
use native.Mathlib.Nat.{sub-zero}
use Rattle.listform.proofs.ListForms.{list_rows, list_refused}
use Rattle.listform.proofs.lists.write_list_at.Goals as goal

pub returns-in_default-clause-value : goal.returns-in_default-clause-value
returns-in_default-clause-value g c = λ a f.
    absurd (list_refused _ _ _ _ c.requires.0 c.requires.1.1 c.rows.new.lent _ c.in_default.ensures.reads a f)

pub write_rows-requires : goal.write_rows-requires
write_rows-requires g c =
    let h = c.in-Ok.ensures in
    let (fits, small, _) = list_rows _ _ _ _ c.requires.0 c.requires.1.1 _ _ h.reads in
    rw (h.same, sub-zero) (c.requires.1.0, (fits, small))

pub returns-clause-value : goal.returns-clause-value
returns-clause-value g c =
    let h = c.in-Ok.ensures in
    let (_, _, form) = list_rows _ _ _ _ c.requires.0 c.requires.1.1 _ _ h.reads in
    λ a f. (ap Some (form a f).0, rw (← (form a f).1) (rw (h.same, sub-zero) at c.write_rows.ensures.value))
