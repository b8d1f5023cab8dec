use Rattle.std.proofs.Common.{◌≡◌, length, take, ap, ◌∙◌, arith}
use Rattle.std.proofs.lemmas.List.{length-take}
use Rattle.form.proofs.row_list.Rows.len.Goals as goal

pub returns : goal.returns
returns c =
    let i = c.self.invariant in
    let e : c.self.inside.used ≡ length (take c.self.inside.used c.self.inside.rows) = omega (arith, length-take c.self.inside.used c.self.inside.rows) in
    e ∙ ap length c.self.view_is
