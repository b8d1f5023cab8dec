-- One attribute or one property of a target, put or dropped.
use Rattle.std.specs.Prelude.{ℕ, zero, suc, Bool, false, cond, ◌||◌, List, [], ◌∷◌, ◌++◌, Some, None, Option, ◌==◌}
use Rattle.contents.specs.Contents.{Contents}
use Rattle.index.specs.Keys.{Key, same_key}
use Rattle.property.specs.Lists.{Property}

abbrev pub without_id : ℕ → (ℕ → Option Contents) → (ℕ → Option Contents)
without_id i held j = cond (i == j) None (held j)

abbrev pub put_contents : (ℕ → Option Contents) → ℕ → Contents → (ℕ → Option Contents)
put_contents held i c j = cond (i == j) (Some c) (held j)

-- Whether a property has the key.
abbrev pub has_key : Key → List Property → Bool
has_key k [] = false
has_key k (p ∷ ps) = same_key p.key k || has_key k ps

-- A replaced property keeps its place, and a new key goes to the end.
abbrev pub replace_property : List Property → Property → List Property
replace_property [] p = []
replace_property (q ∷ qs) p = cond (same_key q.key p.key) (p ∷ qs) (q ∷ replace_property qs p)

abbrev pub put_in : List Property → Property → List Property
put_in ps p = cond (has_key p.key ps) (replace_property ps p) (ps ++ p ∷ [])

-- A drop leaves the others in their order.
abbrev pub without_key : Key → List Property → List Property
without_key k [] = []
without_key k (p ∷ ps) = cond (same_key p.key k) ps (p ∷ without_key k ps)

-- Lists of which one element is changed or left out.
abbrev pub change_nth : {A : Type 0} → List A → ℕ → A → List A
change_nth [] n y = []
change_nth (x ∷ xs) zero y = y ∷ xs
change_nth (x ∷ xs) (suc n) y = x ∷ change_nth xs n y

abbrev pub without_nth : {A : Type 0} → List A → ℕ → List A
without_nth [] n = []
without_nth (x ∷ xs) zero = xs
without_nth (x ∷ xs) (suc n) = x ∷ without_nth xs n
