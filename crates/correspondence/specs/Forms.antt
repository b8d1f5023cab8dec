use Rattle.std.specs.Prelude.{ℕ, List, map}
use Rattle.std.specs.Cow.{cow_slice_items}
use Rattle.correspondence.specs.declared.Correspondence.{Correspondence}

-- The forms that a correspondence holds, each once, in the order in which they were added.
abbrev pub forms_in : Correspondence → List (List ℕ)
forms_in c = map (λ f. cow_slice_items f.bytes) c.forms.keys
