-- Keys and properties of a list after one is put or dropped.
use Rattle.std.proofs.Common.{◌≡◌, Bool, true, false, cond, ◌||◌, List, [], ◌∷◌, ◌++◌, map, Some, None, sym, refl, ap, ◌∙◌, inl, inr}
use Rattle.std.proofs.lemmas.List.{map-append}
use Rattle.std.proofs.lemmas.Bool.{cases_Bool, both_ways, or_parts}
use Rattle.index.specs.Keys.{Key, same_key}
use Rattle.index.specs.SameKeys.{same_key_true}
use Rattle.property.specs.Lists.{Property}
use Rattle.message.specs.Sameness.{property_in}
use Rattle.message.proofs.Indexing.{other_key}
use Rattle.editing.specs.Slots.{has_key, replace_property, put_in, without_key}
use Rattle.editing.proofs.Listed.{KeysApart}
use Rattle.promise.proofs.Orders.{adds, has, removed, moved}

-- Properties.
abbrev pub keys : List Property → List Key
keys ps = map (λ p. p.key) ps

pub has_keys : (k : Key) (ps : List Property) → has k (keys ps) ≡ has_key k ps
has_keys k [] = refl
has_keys k (p ∷ ps) = ap (λ b. same_key p.key k || b) (has_keys k ps)

replaced_keys : (ps : List Property) (p : Property) → keys (replace_property ps p) ≡ keys ps
replaced_keys [] p = refl
replaced_keys (q ∷ qs) p =
    elim (cases_Bool (same_key q.key p.key)) [
      | inl t ↦ rw t (ap (λ k. k ∷ keys qs) (sym (same_key_true q.key p.key t)))
      | inr f ↦ rw f (ap (λ l. q.key ∷ l) (replaced_keys qs p))
    ]

pub put_keys : (ps : List Property) (p : Property) → keys (put_in ps p) ≡ moved (adds p.key) (keys ps)
put_keys ps p =
    elim (cases_Bool (has_key p.key ps)) [
      | inl t ↦ rw (has_keys p.key ps, t) (replaced_keys ps p)
      | inr f ↦ rw (has_keys p.key ps, f) (map-append (λ (q : Property). q.key) ps (p ∷ []))
    ]

pub without_keys : (k : Key) (ps : List Property) → keys (without_key k ps) ≡ removed k (keys ps)
without_keys k [] = refl
without_keys k (p ∷ ps) =
    elim (cases_Bool (same_key p.key k)) [
      | inl t ↦ rw t
      | inr f ↦ rw f (ap (λ l. p.key ∷ l) (without_keys k ps))
    ]

absent : (ps : List Property) (k : Key) → has_key k ps ≡ false → property_in ps k ≡ None
absent [] k e = refl
absent (p ∷ ps) k e = let (a, b) = or_parts (same_key p.key k) (has_key k ps) e in rw a (absent ps k b)

pushed_under : (ps : List Property) (p : Property) (l : Key) → has_key p.key ps ≡ false → property_in (ps ++ p ∷ []) l ≡ cond (same_key p.key l) (Some p) (property_in ps l)
pushed_under [] p l e = refl
pushed_under (q ∷ qs) p l e =
    let (a, b) = or_parts (same_key q.key p.key) (has_key p.key qs) e in
    elim (cases_Bool (same_key q.key l)) [
      | inl t ↦
          let other : same_key p.key l ≡ false = ap (same_key p.key) (sym (same_key_true q.key l t)) ∙ other_key q.key p.key a in
          rw (t, other)
      | inr f ↦ rw f (pushed_under qs p l b)
    ]

replaced_under : (ps : List Property) (p : Property) (l : Key) → has_key p.key ps ≡ true → property_in (replace_property ps p) l ≡ cond (same_key p.key l) (Some p) (property_in ps l)
replaced_under [] p l e = absurd (both_ways false refl e)
replaced_under (q ∷ qs) p l e =
    elim (cases_Bool (same_key q.key p.key)) [
      | inl t ↦
          let same : same_key q.key l ≡ same_key p.key l = ap (λ k. same_key k l) (same_key_true q.key p.key t) in
          rw t (rw same (twice (same_key p.key l) (Some p) (Some q) (property_in qs l)))
      | inr f ↦
          let there : has_key p.key qs ≡ true = rw f at e in
          rw f (elim (cases_Bool (same_key q.key l)) [
            | inl t ↦
                let other : same_key p.key l ≡ false = ap (same_key p.key) (sym (same_key_true q.key l t)) ∙ other_key q.key p.key f in
                rw (t, other)
            | inr g ↦ rw g (replaced_under qs p l there)
          ])
    ]
  where
    twice : {A : Type 0} (b : Bool) (x y z : A) → cond b x z ≡ cond b x (cond b y z)
    twice true x y z = refl
    twice false x y z = refl

pub put_under : (ps : List Property) (p : Property) (l : Key) → property_in (put_in ps p) l ≡ cond (same_key p.key l) (Some p) (property_in ps l)
put_under ps p l =
    elim (cases_Bool (has_key p.key ps)) [
      | inl t ↦ rw t (replaced_under ps p l t)
      | inr f ↦ rw f (pushed_under ps p l f)
    ]

pub without_under : (k : Key) (ps : List Property) (l : Key) → KeysApart ps → property_in (without_key k ps) l ≡ cond (same_key k l) None (property_in ps l)
without_under k [] l a = elim (cases_Bool (same_key k l)) [ inl t ↦ rw t | inr f ↦ rw f ]
without_under k (p ∷ ps) l a =
    elim (cases_Bool (same_key p.key k)) [
      | inl t ↦
          let is : p.key ≡ k = same_key_true p.key k t in
          rw t (elim (cases_Bool (same_key k l)) [
            | inl u ↦
                let no : has_key l ps ≡ false = ap (λ x. has_key x ps) (sym (is ∙ same_key_true k l u)) ∙ a.0 in
                rw u (absent ps l no)
            | inr g ↦ let other : same_key p.key l ≡ false = ap (λ x. same_key x l) is ∙ g in rw (g, other)
          ])
      | inr f ↦
          rw f (elim (cases_Bool (same_key p.key l)) [
            | inl u ↦
                let other : same_key k l ≡ false = ap (same_key k) (sym (same_key_true p.key l u)) ∙ other_key p.key k f in
                rw (u, other)
            | inr g ↦ rw g (without_under k ps l a.1)
          ])
    ]
