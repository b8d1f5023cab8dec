-- The index of a list, in lent rows.
use Rattle.std.specs.Prelude.{◌≡◌, ℕ, ◌≤◌, Bool, false, List, [], ◌∷◌, length, take, Ok, Err, Result, nat_le}
use Rattle.source.specs.Outcome.{Outcome, ◌>>◌, need}
use Rattle.source.specs.declared.refusals.Reason.TheVariants.{ShortWork}
use Rattle.source.specs.declared.refusals.Refusal.{Refusal}
use Rattle.index.specs.Keys.{key_of, same_key}
use Rattle.index.specs.Rows.{added}
use Rattle.index.specs.declared.properties.PropertyRow.{PropertyRow}
use Rattle.property.specs.declared.indexing.Listed.{Listed}
use Rattle.property.specs.Fields.{At, at}
use Rattle.property.specs.Lists.{Property, property_at, list_at, list_limit, indexed}
use Rattle.property.specs.Rows.{Carries}

abbrev pub same_row : PropertyRow → PropertyRow → Bool
same_row x y = same_key (key_of x.key) (key_of y.key)

-- Rows that carry properties, one each, in their order.
abbrev pub Carried : List ℕ → ℕ → List PropertyRow → List Property → Type 0
Carried xs end [] [] = Unit {0}
Carried xs end [] (p ∷ ps) = ⊥
Carried xs end (r ∷ rs) [] = ⊥
Carried xs end (r ∷ rs) (p ∷ ps) = Carries xs end r p × Carried xs end rs ps

-- One more property in the first `used` rows.
abbrev pub AddedAt : List ℕ → ℕ → ℕ → ℕ → List PropertyRow → List PropertyRow → Result Listed Refusal → Type 0
AddedAt xs end place used start after (Ok l) =
    (row : PropertyRow) × (p : Property) × (property_at xs end place ≡ Ok (at p l.next)) × Carries xs end row p
    × (l.count ≤ length after) × (take l.count after ≡ added same_row false (take used start) row)
AddedAt xs end place used start after (Err e) = property_at xs end place ≡ Err e

-- Where properties were read, the rows carry them as their keys first come; else the refusal.
abbrev pub ListedBy : List ℕ → ℕ → Outcome (At (List Property)) → List PropertyRow → Result Listed Refusal → Type 0
ListedBy xs end o after (Ok l) =
    (ps : List Property) × (o ≡ Ok (at ps l.next)) × (l.count ≤ length after) × Carried xs end (take l.count after) (indexed ps)
ListedBy xs end o after (Err e) = o ≡ Err e

-- The list at a place, where there is room for all that a list can have.
unfoldable pub listed : List ℕ → ℕ → ℕ → ℕ → Outcome (At (List Property))
unfolding ◌>>◌
listed xs end place room = do
  need (nat_le list_limit room) ShortWork 0
  list_at xs end place
