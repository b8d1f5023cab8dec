-- Lists in which no key stands twice, and what indexing a list leaves.
use Rattle.std.proofs.Common.{◌≡◌, ℕ, ◌+◌, ◌≤◌, false, List, [], ◌∷◌, ◌++◌, map, length, fold, sym, refl, ◌∙◌, inl, inr, arith}
use Rattle.std.specs.List.{flat_map, AllByRecursion}
use Rattle.std.proofs.lemmas.List.{append_assoc, append-nil, length-append}
use Rattle.std.proofs.ByRecursion.{All-push}
use Rattle.std.proofs.lemmas.Bool.{or_parts, or_from, cases_Bool, both_ways}
use Rattle.source.specs.Bytes.{le}
use Rattle.scan.proofs.Numbers.{length_le}
use Rattle.index.specs.Keys.{Key, tag, numbered, named, same_key}
use Rattle.index.specs.Rows.{has, added}
use Rattle.index.specs.Laws.{Apart}
use Rattle.index.specs.SameKeys.{key_itself, same_key_true, same_key_from}
use Rattle.index.proofs.Keeping.{lawful}
use Rattle.property.specs.Lists.{Property, same_property, indexed}
use Rattle.property.specs.Names.{first_named}
use Rattle.property.specs.Writing.{write_key, write_property, after_key, write_properties, write_list, write_table}
use Rattle.message.specs.Grammar.{property_bytes, list_bytes}
use Rattle.message.proofs.Rewrites.{ToldBy, list_from, list_parts}

abbrev pub ApartKeys : List Property → Type 0
ApartKeys ps = Apart same_property ps

pub indexed_apart : (ps : List Property) → ApartKeys (indexed ps)
indexed_apart ps =
    (lawful same_property (λ p. key_itself p.key)
    (λ p q e. same_key_from q.key p.key (sym (same_key_true p.key q.key e)))
    (λ p q r e f. same_key_from p.key r.key (same_key_true p.key q.key e ∙ same_key_true q.key r.key f)) false ps).apart

abbrev adding : List Property → List Property → List Property
adding done ps = fold (added same_property false) done ps

adding_all : (P : Property → Type 0) (done ps : List Property) → AllByRecursion P done → AllByRecursion P ps → AllByRecursion P (adding done ps)
adding_all P done [] a b = a
adding_all P done (p ∷ ps) a b =
    elim (cases_Bool (has same_property done p)) [
      | inl t ↦ rw t (adding_all P done ps a b.1)
      | inr f ↦ rw f (adding_all P (done ++ p ∷ []) ps (All-push P done p a b.0) b.1)
    ]

-- A measure of properties, summed.
abbrev weight : (Property → ℕ) → List Property → ℕ
weight f [] = 0
weight f (p ∷ ps) = f p + weight f ps

weight_push : (f : Property → ℕ) (ps : List Property) (p : Property) → weight f (ps ++ p ∷ []) ≡ weight f ps + f p
weight_push f [] p = omega arith
weight_push f (q ∷ ps) p = omega (arith, weight_push f ps p)

adding_weight : (f : Property → ℕ) (done ps : List Property) → weight f (adding done ps) ≤ weight f done + weight f ps
adding_weight f done [] = omega arith
adding_weight f done (p ∷ ps) =
    elim (cases_Bool (has same_property done p)) [
      | inl t ↦ rw t (omega (arith, adding_weight f done ps))
      | inr n ↦ rw n (omega (arith, adding_weight f (done ++ p ∷ []) ps, weight_push f done p))
    ]

length_weight : (ps : List Property) → weight (λ p. 1) ps ≡ length ps
length_weight [] = refl
length_weight (p ∷ ps) = omega (arith, length_weight ps)

indexed_length : (ps : List Property) → length (indexed ps) ≤ length ps
indexed_length ps = omega (arith, adding_weight (λ p. 1) [] ps, length_weight ps, length_weight (indexed ps))

pub other_key : (k l : Key) → same_key k l ≡ false → same_key l k ≡ false
other_key k l e =
    elim (cases_Bool (same_key l k)) [
      | inl t ↦ absurd (both_ways (same_key k l) e (same_key_from k l (sym (same_key_true l k t))))
      | inr f ↦ f
    ]

before_apart : (done : List Property) (p : Property) (ps : List Property) → ApartKeys (done ++ p ∷ ps) → has same_property done p ≡ false
before_apart [] p ps a = refl
before_apart (q ∷ done) p ps a = or_from _ _ (here q done p ps a.0) (before_apart done p ps a.1)
  where
    here : (q : Property) (done : List Property) (p : Property) (ps : List Property) → has same_property (done ++ p ∷ ps) q ≡ false → same_property q p ≡ false
    here q [] p ps e = other_key p.key q.key (or_parts (same_property p q) (has same_property ps q) e).0
    here q (r ∷ done) p ps e = here q done p ps (or_parts (same_property r q) (has same_property (done ++ p ∷ ps) q) e).1

adding_same : (done ps : List Property) → ApartKeys (done ++ ps) → adding done ps ≡ done ++ ps
adding_same done [] a = sym (append-nil done)
adding_same done (p ∷ ps) a =
    let again = append_assoc done (p ∷ []) ps in
    rw (before_apart done p ps a) (adding_same (done ++ p ∷ []) ps (rw again a) ∙ again)

pub indexed_same : (ps : List Property) → ApartKeys ps → indexed ps ≡ ps
indexed_same ps a = adding_same [] ps a

-- How long written properties are: it does not hang on the numbers of names, and falls where properties are left out.
key_size : (m n : ℕ) (k : Key) → length (write_key m k) ≡ length (write_key n k)
unfolding write_key
key_size m n (tag i) = refl
key_size m n (numbered g k) = simp (length-append, length_le)
key_size m n (named g s) = simp (length-append, length_le)

size : Property → ℕ
size p = length (write_property 0 p)

property_size : (n : ℕ) (p : Property) → length (write_property n p) ≡ size p
unfolding write_property size
property_size n p = simp length-append (rw (key_size n 0 p.key))

properties_size : (n : ℕ) (ps : List Property) → length (write_properties n ps) ≡ weight size ps
properties_size n [] = refl
properties_size n (p ∷ ps) = omega (arith, length-append (write_property n p) (write_properties (after_key p.key n) ps), property_size n p, properties_size (after_key p.key n) ps)

list_size : (ps : List Property) → length (write_list ps) ≡ 4 + weight size ps
unfolding write_list
list_size ps = omega (arith, length-append (le 4 (length ps)) (write_properties first_named ps), length_le 4 (length ps), properties_size first_named ps)

pub indexed_size : (ps : List Property) → length (write_list (indexed ps)) ≤ length (write_list ps)
indexed_size ps = omega (arith, list_size ps, list_size (indexed ps), adding_weight size [] ps)

rows_size : (rs : List (List Property)) → length (flat_map write_list (map indexed rs)) ≤ length (flat_map write_list rs)
rows_size [] = omega arith
rows_size (r ∷ rs) =
    omega (arith, indexed_size r, rows_size rs, length-append (write_list r) (flat_map write_list rs), length-append (write_list (indexed r)) (flat_map write_list (map indexed rs)))

pub table_size : (rs : List (List Property)) → length (write_table (map indexed rs)) ≤ length (write_table rs)
unfolding write_table
table_size rs =
    omega (
      arith,
      rows_size rs,
      length-append (le 4 (length rs)) (flat_map write_list rs),
      length-append (le 4 (length (map indexed rs))) (flat_map write_list (map indexed rs)),
      length_le 4 (length rs),
      length_le 4 (length (map indexed rs)),
    )

-- A list that stands somewhere, with no key twice.
abbrev pub WellList : List Property → Type 0
WellList ps = ToldBy list_bytes ps × ApartKeys ps

pub indexed_list : (ps : List Property) → ToldBy list_bytes ps → WellList (indexed ps)
indexed_list ps t = let (all, few) = list_parts ps t in (list_from (indexed ps) (omega (arith, indexed_length ps)) (adding_all (ToldBy property_bytes) [] ps tt all), indexed_apart ps)

pub indexed_rows : (rs : List (List Property)) → AllByRecursion (ToldBy list_bytes) rs → AllByRecursion WellList (map indexed rs)
indexed_rows [] v = tt
indexed_rows (r ∷ rs) v = (indexed_list r v.0, indexed_rows rs v.1)
