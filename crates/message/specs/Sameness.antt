-- When two messages are the same: said by targets, ids, keys and the order of keys.
use Rattle.std.specs.Prelude.{◌≡◌, ℕ, zero, suc, ◌≤◌, cond, List, [], ◌∷◌, map, length, Some, None, Ok, Option}
use Rattle.source.specs.Bytes.{Octets}
use Rattle.source.specs.Content.{source_limit}
use Rattle.contents.specs.Contents.{Contents}
use Rattle.index.specs.Keys.{Key, same_key}
use Rattle.property.specs.Lists.{Property}
use Rattle.message.specs.declared.Target.{Target}
use Rattle.message.specs.declared.Target.TheVariants.{Message as to_message, Row as to_row, Attachment as to_attachment}
use Rattle.stream.specs.Messages.{Message, Holding, read}

abbrev pub nth : {A : Type 0} → List A → ℕ → Option A
nth [] n = None
nth (x ∷ xs) zero = Some x
nth (x ∷ xs) (suc n) = nth xs n

-- What a target holds; a row has no attributes.
abbrev pub row_holding : Option (List Property) → Option Holding
row_holding None = None
row_holding (Some ps) = Some (record { attributes = λ i. None; properties = ps })

abbrev pub holding : Message → Target → Option Holding
holding m to_message = Some m.own
holding m (to_row r) = row_holding (nth m.rows r)
holding m (to_attachment k) = nth m.attachments k

abbrev pub contents_held : Option Holding → ℕ → Option Contents
contents_held None i = None
contents_held (Some h) i = h.attributes i

abbrev pub property_in : List Property → Key → Option Property
property_in [] k = None
property_in (p ∷ ps) k = cond (same_key p.key k) (Some p) (property_in ps k)

abbrev pub property_held : Option Holding → Key → Option Property
property_held None k = None
property_held (Some h) k = property_in h.properties k

abbrev pub keys_held : Option Holding → List Key
keys_held None = []
keys_held (Some h) = map (λ p. p.key) h.properties

-- The contents of an id, the property of a key, and the keys in their order, in a target.
abbrev pub contents_at : Message → Target → ℕ → Option Contents
contents_at m t i = contents_held (holding m t) i

abbrev pub property_under : Message → Target → Key → Option Property
property_under m t k = property_held (holding m t) k

abbrev pub keys_at : Message → Target → List Key
keys_at m t = keys_held (holding m t)

pub record Same (m n : Message) : Type 0 where
  pub primary : m.primary ≡ n.primary
  pub rows : length m.rows ≡ length n.rows
  pub attachments : length m.attachments ≡ length n.attachments
  pub contents : (t : Target) (i : ℕ) → contents_at m t i ≡ contents_at n t i
  pub properties : (t : Target) (k : Key) → property_under m t k ≡ property_under n t k
  pub order : (t : Target) → keys_at m t ≡ keys_at n t

-- A readable stream carries a message.
abbrev pub Carries : List ℕ → Message → Type 0
Carries xs m = read xs ≡ Ok m

-- What a source may mean.
abbrev pub SourceBytes : List ℕ → Type 0
SourceBytes xs = Octets xs × (length xs ≤ source_limit)

-- A message is what a readable stream carries.
abbrev pub IsMessage : Message → Type 0
IsMessage m = (xs : List ℕ) × SourceBytes xs × Carries xs m
