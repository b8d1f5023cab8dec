-- The items that touches set, and touches of different items.
use Rattle.std.proofs.Common.{◌≡◌, ℕ, true, false, not, ◌&&◌, eqb, Some, None, Ok, Err, Option, sym, refl, ap, ◌∙◌, inl, inr, arith}
use Rattle.std.proofs.lemmas.Bool.{cases_Bool, and_parts, eqb-true}
use Rattle.source.specs.Outcome.{Outcome}
use Rattle.attribute.specs.Table.{code_page_id}
use Rattle.contents.specs.Contents.{Contents}
use Rattle.index.specs.Keys.{Key, same_key}
use Rattle.index.specs.SameKeys.{same_key_true}
use Rattle.property.specs.Lists.{Property}
use Rattle.stream.specs.Messages.{Message, Holding}
use Rattle.message.specs.declared.Target.{Target}
use Rattle.message.specs.declared.Target.TheVariants.{Message as to_message}
use Rattle.message.specs.Sameness.{holding, keys_held, keys_at}
use Rattle.editing.specs.Edits.{given_property, given_key}
use Rattle.promise.specs.Commuting.{Item, attribute, property, Touch, put_contents as touch_put, put_value, drop_contents, drop_value, under_key, of_property, item, Given, lacks, same_target, brings}
use Rattle.promise.proofs.Orders.{Mark, adds, removes, nothing, is_new, Off, Differ, OneSets}
use Rattle.promise.proofs.Touches.{contents_by, primary_by, put_of, drop_of, property_by, mark_put, mark_drop, mark}
use Rattle.promise.proofs.Holdings.{same_target_true}
use Rattle.promise.proofs.Keyed.{has_keys}

-- The item of what a touch sets.
no_some : {A : Type 0} {B : Type 0} (a : A) → ◌≡◌ {A = Option A} None (Some a) → B
no_some a e = absurd (let z : ◌≡◌ {A = ℕ} 0 1 = cc in omega arith)

pub contents_item : (t : Target) (i : ℕ) (g : Touch) (v : Option Contents) → contents_by t i g ≡ Some v → item g ≡ Some (attribute t i)
contents_item t i (touch_put u j xs) v e =
    elim (cases_Bool (same_target t u && (eqb j i && not (eqb j code_page_id)))) [
      | inl y ↦
          let (a, b) = and_parts (same_target t u) _ y in
          let (c, d) = and_parts (eqb j i) _ b in
          rw (same_target_true t u a, eqb-true j i c)
      | inr n ↦ no_some v (rw n at e)
    ]
contents_item t i (put_value u xs) v e = no_some v e
contents_item t i (drop_contents u j) v e =
    elim (cases_Bool (same_target t u && eqb j i)) [
      | inl y ↦ let (a, b) = and_parts (same_target t u) _ y in rw (same_target_true t u a, eqb-true j i b)
      | inr n ↦ no_some v (rw n at e)
    ]
contents_item t i (drop_value u xs) v e = no_some v e

pub primary_item : (g : Touch) (v : ℕ) → primary_by g ≡ Some v → item g ≡ Some (attribute to_message code_page_id)
primary_item (touch_put u j xs) v e =
    elim (cases_Bool (same_target to_message u && eqb j code_page_id)) [
      | inl y ↦ let (a, b) = and_parts (same_target to_message u) _ y in rw (← same_target_true to_message u a, eqb-true j code_page_id b)
      | inr n ↦ no_some v (rw n at e)
    ]
primary_item (put_value u xs) v e = no_some v e
primary_item (drop_contents u j) v e = no_some v e
primary_item (drop_value u xs) v e = no_some v e

put_item : (t : Target) (k : Key) (o : Outcome Property) (v : Option Property) → put_of k o ≡ Some v → of_property t o ≡ Some (property t k)
put_item t k (Ok p) v e =
    elim (cases_Bool (same_key p.key k)) [
      | inl y ↦ rw (same_key_true p.key k y)
      | inr n ↦ no_some v (rw n at e)
    ]
put_item t k (Err x) v e = no_some v e

drop_item : (t : Target) (k : Key) (o : Outcome Key) (v : Option Property) → drop_of k o ≡ Some v → under_key t o ≡ Some (property t k)
drop_item t k (Ok l) v e =
    elim (cases_Bool (same_key l k)) [
      | inl y ↦ rw (same_key_true l k y)
      | inr n ↦ no_some v (rw n at e)
    ]
drop_item t k (Err x) v e = no_some v e

pub value_item : (t : Target) (k : Key) (g : Touch) (v : Option Property) → property_by t k g ≡ Some v → item g ≡ Some (property t k)
value_item t k (touch_put u j xs) v e = no_some v e
value_item t k (put_value u xs) v e =
    elim (cases_Bool (same_target t u)) [
      | inl y ↦ rw (same_target_true t u y) (put_item u k (given_property xs) v (rw y at e))
      | inr n ↦ no_some v (rw n at e)
    ]
value_item t k (drop_contents u j) v e = no_some v e
value_item t k (drop_value u xs) v e =
    elim (cases_Bool (same_target t u)) [
      | inl y ↦ rw (same_target_true t u y) (drop_item u k (given_key xs) v (rw y at e))
      | inr n ↦ no_some v (rw n at e)
    ]

-- The key of a mark.
abbrev marked : Mark → Option Key
marked (adds k) = Some k
marked (removes k) = Some k
marked nothing = None

mark_put_item : (t : Target) (k : Key) (o : Outcome Property) → marked (mark_put o) ≡ Some k → of_property t o ≡ Some (property t k)
mark_put_item t k (Ok p) e = let same : p.key ≡ k = cc in rw same
mark_put_item t k (Err x) e = no_some k e

mark_drop_item : (t : Target) (k : Key) (o : Outcome Key) → marked (mark_drop o) ≡ Some k → under_key t o ≡ Some (property t k)
mark_drop_item t k (Ok l) e = let same : l ≡ k = cc in rw same
mark_drop_item t k (Err x) e = no_some k e

mark_item : (t : Target) (k : Key) (g : Touch) → marked (mark t g) ≡ Some k → item g ≡ Some (property t k)
mark_item t k (touch_put u j xs) e = no_some k e
mark_item t k (put_value u xs) e =
    elim (cases_Bool (same_target t u)) [
      | inl y ↦ rw (same_target_true t u y) (mark_put_item u k (given_property xs) (rw y at e))
      | inr n ↦ no_some k (rw n at e)
    ]
mark_item t k (drop_contents u j) e = no_some k e
mark_item t k (drop_value u xs) e =
    elim (cases_Bool (same_target t u)) [
      | inl y ↦ rw (same_target_true t u y) (mark_drop_item u k (given_key xs) (rw y at e))
      | inr n ↦ no_some k (rw n at e)
    ]

-- Touches of different items.
abbrev pub OtherItem : Given → Given → Type 0
OtherItem g h = item g.touch ≡ item h.touch → ⊥

pub one_sets : {V : Type 0} (by : Touch → Option V) (s : Item) → ((g : Touch) (v : V) → by g ≡ Some v → item g ≡ Some s) → (g h : Given) → OtherItem g h → OneSets (λ x. by x.touch) g h
one_sets {V} by s own g h d = go (by g.touch) refl (by h.touch) refl
  where
    go : (a : Option V) → by g.touch ≡ a → (b : Option V) → by h.touch ≡ b → OneSets (λ x. by x.touch) g h
    go None e b f = inl e
    go (Some v) e None f = inr f
    go (Some v) e (Some w) f = absurd (d (own g.touch v e ∙ sym (own h.touch w f)))

pub differ : (t : Target) (g h : Given) → OtherItem g h → Differ (mark t g.touch) (mark t h.touch)
differ t g h d = go (mark t g.touch) refl
  where
    apart : (k l : Key) → item g.touch ≡ Some (property t k) → item h.touch ≡ Some (property t l) → same_key k l ≡ false
    apart k l e f =
        elim (cases_Bool (same_key k l)) [
          | inl y ↦ absurd (d (e ∙ (ap (λ x. Some (property t x)) (same_key_true k l y) ∙ sym f)))
          | inr n ↦ n
        ]

    off : (k : Key) → item g.touch ≡ Some (property t k) → (b : Mark) → mark t h.touch ≡ b → Off k b
    off k e (adds l) f = apart k l e (mark_item t l h.touch (ap marked f))
    off k e (removes l) f = apart k l e (mark_item t l h.touch (ap marked f))
    off k e nothing f = tt

    go : (a : Mark) → mark t g.touch ≡ a → Differ a (mark t h.touch)
    go (adds k) e = off k (mark_item t k g.touch (ap marked e)) (mark t h.touch) refl
    go (removes k) e = off k (mark_item t k g.touch (ap marked e)) (mark t h.touch) refl
    go nothing e = tt

-- The puts that bring new keys are those whose marks are new.
pub brings_new : (m : Message) (t : Target) (h : Holding) → holding m t ≡ Some h → (g : Touch) → brings m t g ≡ is_new (mark t g) (keys_at m t)
brings_new m t h is (touch_put u j xs) = refl
brings_new m t h is (put_value u xs) =
    elim (cases_Bool (same_target t u)) [
      | inl y ↦ rw y (there y)
      | inr n ↦ rw n
    ]
  where
    put : (o : Outcome Property) → lacks (Some h) o ≡ is_new (mark_put o) (keys_held (Some h))
    put (Ok p) = ap not (sym (has_keys p.key h.properties))
    put (Err x) = refl

    there : same_target t u ≡ true → lacks (holding m u) (given_property xs) ≡ is_new (mark_put (given_property xs)) (keys_at m t)
    there y =
        ap (λ v. lacks (holding m v) (given_property xs)) (sym (same_target_true t u y))
        ∙ (ap (λ o. lacks o (given_property xs)) is ∙ (put (given_property xs) ∙ ap (λ o. is_new (mark_put (given_property xs)) (keys_held o)) (sym is)))
brings_new m t h is (drop_contents u j) = refl
brings_new m t h is (drop_value u xs) =
    elim (cases_Bool (same_target t u)) [
      | inl y ↦ rw y (none_new (given_key xs))
      | inr n ↦ rw n
    ]
  where
    none_new : (o : Outcome Key) → false ≡ is_new (mark_drop o) (keys_at m t)
    none_new (Ok k) = refl
    none_new (Err x) = refl
