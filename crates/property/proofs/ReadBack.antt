-- What was written is read again.
use Rattle.std.proofs.Common.{◌≡◌, ℕ, ◌+◌, ◌^◌, ◌<◌, ◌≤◌, Bool, true, false, List, [], ◌∷◌, ◌++◌, length, take, drop, Some, None, Ok, Option, sym, refl, ap, ◌∙◌, add-zero, arith}
use Rattle.std.specs.List.{flat_map, AllByRecursion}
use Rattle.std.proofs.lemmas.List.{length-append, length-replicate, take-take, take_at, drop_at, drop-take, drop-drop}
use Rattle.std.proofs.lemmas.Bool.{eqb-true, le-leb, le-ltb, lt-ltb}
use Rattle.scan.proofs.Numbers.{length_le, val_le}
use Rattle.source.specs.Bytes.{part, le}
use Rattle.source.specs.Outcome.{Outcome, ◌>>=◌}
use Rattle.index.specs.Keys.{Key, tag, numbered, named}
use Rattle.index.specs.Limits.{name_limit}
use Rattle.property.specs.declared.kinds.Kind.{Kind}
use Rattle.property.specs.declared.kinds.Shape.{Shape}
use Rattle.property.specs.Fields.{At, at, padded, filled, repeated, field, number_at, sized}
use Rattle.property.specs.Kinds.{Value, normal, width, shape_of}
use Rattle.property.specs.Lists.{Property, property_from, property_at, list_limit, row_limit, list_at, table_at}
use Rattle.property.specs.Names.{first_named, name_string, name_number, name, key_at}
use Rattle.property.specs.Rows.{sized_by}
use Rattle.property.specs.Validity.{ValidKey, OfKind, Counted, ValidValues, Valid, ValidList, ValidTable, Stands, IsReadBack}
use Rattle.property.specs.Values.{fixed_value, sized_value, fixed_values, sized_values, values_of, values_at}
use Rattle.property.specs.Writing.{write_key, write_fixed, write_sized, write_values, write_shaped, write_property, after_key, write_properties, write_list, write_table}

length_filled : (a : List ℕ) → length (filled a) ≡ padded (length a)
unfolding filled
length_filled a = simp (length-append, length-replicate) (omega arith)

module _ (xs : List ℕ) (end : ℕ) where
  -- One list of bytes, and behind it at q another.
  split : (p q : ℕ) (a b : List ℕ) → p + length a ≡ q → Stands xs end p (a ++ b) → Stands xs end p a × Stands xs end q b
  unfolding part
  split p q a b g s =
      let n = length-append a b in
      let e : take (length a + length b) (drop p xs) ≡ a ++ b = rw n at s.1 in
      rw (← g) (
        (omega arith, sym (take-take (length a) (length a + length b) (drop p xs) (omega arith)) ∙ ap (take (length a)) e ∙ take_at a b (length a) refl),
        (omega arith, ap (take (length b)) (sym (drop-drop (length a) p xs)) ∙ sym (drop-take (length a) (length b) (drop p xs)) ∙ ap (drop (length a)) e ∙ drop_at a b (length a) refl),
      )

  unfilled : (p : ℕ) (a : List ℕ) → Stands xs end p (filled a) → Stands xs end p a
  unfolding filled
  unfilled p a s = (split p _ a _ refl s).0

  -- One thing after another.
  module _ {A : Type 0} (read : ℕ → Outcome (At A)) (write : A → List ℕ) (V : A → Type 0)
      (one : (p : ℕ) (a : A) → V a → Stands xs end p (write a) → Ok (at a (p + length (write a))) ≡ read p) where
    repeated_back : (p : ℕ) (as' : List A) → AllByRecursion V as' → Stands xs end p (flat_map write as')
        → Ok (at as' (p + length (flat_map write as'))) ≡ repeated read (length as') p
    unfolding repeated ◌>>=◌
    repeated_back p [] v s = rw add-zero
    repeated_back p (a ∷ as') v s =
        let (h, t) = split p _ (write a) (flat_map write as') refl s in
        let e : p + length (write a ++ flat_map write as') ≡ p + length (write a) + length (flat_map write as') = simp length-append (omega arith) in
        rw (e, ← one p a v.0 h, ← repeated_back (p + length (write a)) as' v.1 t)

  module _ (start : ℕ) where
    number_back : (w n p : ℕ) → n < 256 ^ w → Stands xs end p (le w n) → Ok n ≡ number_at xs end start p w
    unfolding number_at field
    number_back w n p h s =
        let l = length_le w n in
        rw (le-leb (p + w) end (omega arith), rw l at s.1, val_le w n h)

    field_back : (n p : ℕ) (g : List ℕ) → length g ≡ n → Stands xs end p g → Ok g ≡ field xs end start p n
    unfolding field
    field_back n p g l s = rw (le-leb (p + n) end (omega arith), rw l at s.1)

    sized_back : (p : ℕ) (a : List ℕ) → length a < 256 ^ 4 → Stands xs end p (le 4 (length a) ++ filled a)
        → (Ok (sized_by xs p (length a)) ≡ sized xs end start p) × (part xs (p + 4) (length a) ≡ a) × (p + 4 + padded (length a) ≤ end)
    unfolding sized
    sized_back p a h s =
        let (n, f) = split p (p + 4) (le 4 (length a)) (filled a) (omega (arith, length_le)) s in
        let fits : p + 4 + padded (length a) ≤ end = omega (arith, f.0, length_filled a) in
        (rw (← number_back 4 (length a) p h n, le-leb (p + 4 + padded (length a)) end fits), (unfilled (p + 4) a f).1, fits)

    -- A name: its number, its GUID, its kind, and what stands behind them.
    name_parts : (number kind p : ℕ) (g b : List ℕ) → length g ≡ 16 → kind < 256 ^ 4 → number < 256 ^ 2 → Stands xs end p (le 2 number ++ (g ++ (le 4 kind ++ b)))
        → (Ok number ≡ number_at xs end start p 2) × (Ok g ≡ field xs end start (p + 2) 16) × (Ok kind ≡ number_at xs end start (p + 2 + 16) 4) × Stands xs end (p + 2 + 20) b
        × (p + length (le 2 number ++ (g ++ (le 4 kind ++ b))) ≡ p + 2 + 20 + length b)
    name_parts number kind p g b l k m s =
        let (s₁, r₁) = split p (p + 2) (le 2 number) _ (omega (arith, length_le)) s in
        let (s₂, r₂) = split (p + 2) (p + 2 + 16) g _ (omega arith) r₁ in
        let (s₃, r₃) = split (p + 2 + 16) (p + 2 + 20) (le 4 kind) b (omega (arith, length_le)) r₂ in
        (number_back 2 number p m s₁, field_back 16 (p + 2) g l s₂, number_back 4 kind (p + 2 + 16) k s₃, r₃, simp (length-append, length_le) (omega arith))

    key_back : end ≤ length xs → (number p : ℕ) (k : Key) → first_named ≤ number → number < 256 ^ 2 → ValidKey k → Stands xs end p (write_key number k)
        → Ok (at k (p + length (write_key number k))) ≡ key_at xs end start p
    unfolding write_key key_at name name_number name_string
    key_back l number p (tag i) a b v s = rw (length_le 2 i, ← number_back 2 i p (omega arith) s, lt-ltb i first_named v)
    key_back l number p (numbered g n) a b v s =
        let (i, f, k, r, w) = name_parts number 0 p g (le 4 n) v.0 (omega arith) b s in
        rw (w, length_le 4 n, ← i, le-ltb number first_named a, ← f, ← k, ← number_back 4 n (p + 2 + 20) v.1 r)
    key_back l number p (named g t) a b v s =
        let (i, f, k, r, w) = name_parts number 1 p g (le 4 (length t) ++ filled t) v.0 (omega arith) b s in
        let (e, q, fits) = sized_back (p + 2 + 20) t (omega arith) r in
        let n : p + 2 + 20 + length (le 4 (length t) ++ filled t) ≡ p + 2 + 20 + 4 + padded (length t) = simp (length-append, length_le, length_filled) (omega arith) in
        rw (w, n, ← i, le-ltb number first_named a, ← f, ← k, ← e, q, le-leb (length t) name_limit v.1, v.2)

    fixed_one_back : (k : Kind) (w p : ℕ) (v : Value) → width k ≡ Some w → OfKind k v → Stands xs end p (write_fixed v)
        → Ok (at v (p + length (write_fixed v))) ≡ fixed_value xs end start k w p
    unfolding fixed_value
    fixed_one_back k w p v e o s =
        let l : length (normal v) ≡ w = eqb-true _ _ (rw e at o.admitted.0) in
        let m : length (filled (normal v)) ≡ padded w = rw l at (length_filled (normal v)) in
        rw (m, le-leb (p + padded w) end (omega arith), rw l at (unfilled p (normal v) s).1, o.means)

    sized_one_back : (k : Kind) (p : ℕ) (v : Value) → OfKind k v → Stands xs end p (write_sized v)
        → Ok (at v (p + length (write_sized v))) ≡ sized_value xs end start k p
    unfolding sized_value
    sized_one_back k p v o s =
        let (e, q, fits) = sized_back p (normal v) o.small s in
        let n : p + length (write_sized v) ≡ p + 4 + padded (length (normal v)) = simp (length-append, length_le, length_filled) (omega arith) in
        rw (n, ← e, q, o.admitted.1, o.means)

    -- A count and what stands behind it.
    count_parts : (n p : ℕ) (b : List ℕ) → n < 256 ^ 4 → Stands xs end p (le 4 n ++ b)
        → (Ok n ≡ number_at xs end start p 4) × Stands xs end (p + 4) b × (p + length (le 4 n ++ b) ≡ p + 4 + length b)
    count_parts n p b h s =
        let (a, r) = split p (p + 4) (le 4 n) b (omega (arith, length_le)) s in
        (number_back 4 n p h a, r, simp (length-append, length_le) (omega arith))

    values_of_back : (o : Option ℕ) (k : Kind) (several : Bool) (p : ℕ) (vs : List Value) → width k ≡ o → AllByRecursion (OfKind k) vs → Counted o several (length vs)
        → Stands xs end p (write_values o several vs) → Ok (at vs (p + length (write_values o several vs))) ≡ values_of xs end start o k several p
    unfolding fixed_values sized_values write_values
    values_of_back (Some w) k false p vs e v c s = rw c at (repeated_back _ write_fixed (OfKind k) (λ p v o s. fixed_one_back k w p v e o s) p vs v s)
    values_of_back (Some w) k true p vs e v c s =
        let (n, r, l) = count_parts (length vs) p (flat_map write_fixed vs) c s in
        rw (l, ← n) (repeated_back _ write_fixed (OfKind k) (λ p v o s. fixed_one_back k w p v e o s) (p + 4) vs v r)
    values_of_back None k several p vs e v c s =
        let (n, r, l) = count_parts (length vs) p (flat_map write_sized vs) c.0 s in
        rw (l, ← n, c.1) (repeated_back _ write_sized (OfKind k) (sized_one_back k) (p + 4) vs v r)

    values_back : (t : Shape) (p : ℕ) (vs : List Value) → ValidValues (Some t) vs → Stands xs end p (write_values (width t.kind) t.several vs)
        → Ok (at vs (p + length (write_values (width t.kind) t.several vs))) ≡ values_at xs end start t p
    unfolding values_at
    values_back t p vs v s = values_of_back (width t.kind) t.kind t.several p vs refl v.0 v.1 s

  module _ (l : end ≤ length xs) where
    property_back : (number p : ℕ) (q : Property) → first_named ≤ number → number < 256 ^ 2 → Valid q → Stands xs end p (write_property number q)
        → Ok (at q (p + length (write_property number q))) ≡ property_at xs end p
    unfolding write_property property_at property_from
    property_back number p q a b v s = go (shape_of q.type) refl v.values_valid s
      where
        go : (o : Option Shape) → shape_of q.type ≡ o → ValidValues o q.values
            → Stands xs end p (le 2 q.type ++ (write_key number q.key ++ write_shaped o q.values))
            → Ok (at q (p + length (le 2 q.type ++ (write_key number q.key ++ write_shaped o q.values)))) ≡ property_at xs end p
        go None e w s = absurd w
        go (Some t) e w s =
            let (s₁, r₁) = split p (p + 2) (le 2 q.type) _ (omega (arith, length_le)) s in
            let (s₂, r₂) = split (p + 2) _ (write_key number q.key) _ refl r₁ in
            let n : p + length (le 2 q.type ++ (write_key number q.key ++ write_shaped (Some t) q.values)) ≡ p + 2 + length (write_key number q.key) + length (write_shaped (Some t) q.values)
            = simp (length-append, length_le) (omega arith) in
            rw (n, ← number_back p 2 q.type p v.type_small s₁, e, ← key_back p l number (p + 2) q.key a b v.key_valid s₂, ← values_back p t _ q.values w r₂)

    next_number : (k : Key) (number : ℕ) → (number ≤ after_key k number) × (after_key k number ≤ number + 1)
    next_number (tag i) number = (omega arith, omega arith)
    next_number (numbered g n) number = (omega arith, omega arith)
    next_number (named g s) number = (omega arith, omega arith)

    properties_back : (number p : ℕ) (ps : List Property) → first_named ≤ number → number + length ps ≤ 256 ^ 2 → AllByRecursion Valid ps → Stands xs end p (write_properties number ps)
        → Ok (at ps (p + length (write_properties number ps))) ≡ repeated (property_at xs end) (length ps) p
    unfolding repeated ◌>>=◌
    properties_back number p [] a b v s = rw add-zero
    properties_back number p (q ∷ ps) a b v s =
        let (h, t) = split p _ (write_property number q) _ refl s in
        let m = next_number q.key number in
        let e : p + length (write_property number q ++ write_properties (after_key q.key number) ps) ≡ p + length (write_property number q) + length (write_properties (after_key q.key number) ps)
        = simp length-append (omega arith) in
        rw (e, ← property_back number p q a (omega arith) v.0 h, ← properties_back (after_key q.key number) (p + length (write_property number q)) ps (omega arith) (omega arith) v.1 t)

    list_back : (p : ℕ) (ps : List Property) → ValidList ps → Stands xs end p (write_list ps) → Ok (at ps (p + length (write_list ps))) ≡ list_at xs end p
    unfolding write_list list_at
    list_back p ps v s =
        let (n, r, w) = count_parts p (length ps) p (write_properties first_named ps) (omega arith) s in
        rw (w, ← n, le-leb (length ps) list_limit v.1) (properties_back first_named (p + 4) ps (omega arith) (omega arith) v.0 r)

    table_back : (p : ℕ) (rs : List (List Property)) → ValidTable rs → Stands xs end p (write_table rs) → Ok (at rs (p + length (write_table rs))) ≡ table_at xs end p
    unfolding write_table table_at
    table_back p rs v s =
        let (n, r, w) = count_parts p (length rs) p (flat_map write_list rs) (omega arith) s in
        rw (w, ← n, le-leb (length rs) row_limit v.1) (repeated_back (list_at xs end) write_list ValidList (λ p ps v s. list_back p ps v s) (p + 4) rs v.0 r)

pub read_back : IsReadBack
read_back = record {
  lists = λ xs end p ps l v s. sym (list_back xs end l p ps v s);
  tables = λ xs end p rs l v s. sym (table_back xs end l p rs v s);
}
