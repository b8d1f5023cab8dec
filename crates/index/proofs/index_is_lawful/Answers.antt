use Rattle.std.proofs.Common.{◌∙◌}
use Rattle.index.proofs.Keeping.{lawful}
use Rattle.index.proofs.index_is_lawful.Goals as goal

pub returns : goal.returns
returns g c =
    let l = g.met.R.Row.laws in
    lawful g.R.Row.same l.refl (λ x y e. l.symm y x ∙ e) (λ x y z e f. l.congr x y z e ∙ f) g.R.Row.later
