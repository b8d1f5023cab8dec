use Rattle.std.specs.Cow.{cow_slice_items}
use Rattle.correspondence.proofs.Kept.{found_bytes}
use Rattle.correspondence.proofs.Correspondence.add.Goals as goal

pub returns-in-Some-clause-forms : goal.returns-in-Some-clause-forms
returns-in-Some-clause-forms c =
    let e = c.in-Some.ensures in
    rw (← c.lent.ensures) (found_bytes (λ f. cow_slice_items f.bytes) c.lent.result c.args.self.now.forms.keys c.in-Some.i e.found e.index).0

pub returns-in-Some-clause-group : goal.returns-in-Some-clause-group
returns-in-Some-clause-group c =
    let e = c.in-Some.ensures in
    rw (← c.lent.ensures) (found_bytes (λ f. cow_slice_items f.bytes) c.lent.result c.args.self.now.forms.keys c.in-Some.i e.found e.index).1
