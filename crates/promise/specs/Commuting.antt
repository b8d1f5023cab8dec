-- Puts and drops in another order.
use Rattle.std.specs.Prelude.{◌≡◌, ℕ, Bool, true, false, cond, not, ◌&&◌, ◌⊎◌, List, [], ◌∷◌, map, Some, None, Ok, Err, Option, ◌==◌}
use Rattle.source.specs.Outcome.{Outcome}
use Rattle.index.specs.Keys.{Key}
use Rattle.property.specs.Lists.{Property}
use Rattle.stream.specs.Messages.{Message, Holding}
use Rattle.message.specs.declared.Target.{Target}
use Rattle.message.specs.declared.Target.TheVariants.{Message as to_message, Row as to_row, Attachment as to_attachment}
use Rattle.message.specs.Sameness.{holding}
use Rattle.editing.specs.Slots.{has_key}
use Rattle.editing.specs.Edits.{Edit, put_attribute, put_property, drop_attribute, drop_property, given_property, given_key}
use Rattle.draft.specs.Drafts.{Memory}
use Rattle.promise.specs.Runs.{Step, edit}

-- One attribute or one property of a target.
pub data Item : Type 0 where
  attribute : Target → (id : ℕ) → Item
  property : Target → Key → Item

-- An edit of one item: a put or a drop.
pub data Touch : Type 0 where
  put_contents : Target → (id : ℕ) → List ℕ → Touch
  put_value : Target → List ℕ → Touch
  drop_contents : Target → (id : ℕ) → Touch
  drop_value : Target → List ℕ → Touch

abbrev pub as_edit : Touch → Edit
as_edit (put_contents t i xs) = put_attribute t i xs
as_edit (put_value t xs) = put_property t xs
as_edit (drop_contents t i) = drop_attribute t i
as_edit (drop_value t xs) = drop_property t xs

-- The item that is touched; bytes that are no property or key name none.
abbrev pub under_key : Target → Outcome Key → Option Item
under_key t (Ok k) = Some (property t k)
under_key t (Err e) = None

abbrev pub of_property : Target → Outcome Property → Option Item
of_property t (Ok p) = Some (property t p.key)
of_property t (Err e) = None

abbrev pub item : Touch → Option Item
item (put_contents t i xs) = Some (attribute t i)
item (put_value t xs) = of_property t (given_property xs)
item (drop_contents t i) = Some (attribute t i)
item (drop_value t xs) = under_key t (given_key xs)

-- A touch and the work memory that its call is given.
pub record Given : Type 0 where
  pub memory : Memory
  pub touch : Touch

abbrev pub steps : List Given → List Step
steps = map (λ g. record { memory = g.memory; call = edit (as_edit g.touch) })

-- ys holds what xs holds, in some order.
pub data Reordered {A : Type 0} : List A → List A → Type 0 where
  none : Reordered [] []
  skip : {x : A} {xs ys : List A} → Reordered xs ys → Reordered (x ∷ xs) (x ∷ ys)
  swap : {x y : A} {xs : List A} → Reordered (x ∷ (y ∷ xs)) (y ∷ (x ∷ xs))
  join : {xs ys zs : List A} → Reordered xs ys → Reordered ys zs → Reordered xs zs

-- Nothing stands twice.
abbrev pub Among : {A : Type 0} → A → List A → Type 0
Among x [] = ⊥
Among x (y ∷ ys) = (x ≡ y) ⊎ Among x ys

abbrev pub Distinct : {A : Type 0} → List A → Type 0
Distinct [] = Unit {0}
Distinct (x ∷ xs) = (Among x xs → ⊥) × Distinct xs

abbrev pub kept : {A : Type 0} → (A → Bool) → List A → List A
kept f [] = []
kept f (x ∷ xs) = cond (f x) (x ∷ kept f xs) (kept f xs)

-- The target has no property with the key that a put brings.
abbrev pub lacks : Option Holding → Outcome Property → Bool
lacks None o = false
lacks (Some h) (Err e) = false
lacks (Some h) (Ok p) = not (has_key p.key h.properties)

abbrev pub same_target : Target → Target → Bool
same_target to_message to_message = true
same_target to_message (to_row r) = false
same_target to_message (to_attachment k) = false
same_target (to_row r) to_message = false
same_target (to_row r) (to_row q) = r == q
same_target (to_row r) (to_attachment k) = false
same_target (to_attachment k) to_message = false
same_target (to_attachment k) (to_row r) = false
same_target (to_attachment k) (to_attachment l) = k == l

-- Whether a touch is a property put that brings a new key to target t of the message.
abbrev pub brings : Message → Target → Touch → Bool
brings m t (put_contents u i xs) = false
brings m t (put_value u xs) = same_target t u && lacks (holding m u) (given_property xs)
brings m t (drop_contents u i) = false
brings m t (drop_value u xs) = false
