use Rattle.std.specs.Cow.{cow_slice_items}
use Rattle.correspondence.proofs.Kept.{inserted_bytes, inserted_place}
use Rattle.correspondence.proofs.Correspondence.add_owned.Goals as goal

pub returns-clause-forms : goal.returns-clause-forms
returns-clause-forms c =
    rw (c.in_ok-place.ensures.keys, ← c.owned.ensures) (inserted_bytes (λ f. cow_slice_items f.bytes) c.owned.result c.args.self.now.forms.keys)

pub returns-clause-group : goal.returns-clause-group
returns-clause-group c =
    rw (c.in_ok-place.ensures.index, c.in_ok-place.ensures.keys, ← c.owned.ensures) (inserted_place (λ f. cow_slice_items f.bytes) c.owned.result c.args.self.now.forms.keys)
