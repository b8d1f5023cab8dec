-- Lists of properties after one is put or dropped.
use Rattle.std.proofs.Common.{◌≡◌, ◌≤◌, true, false, ◌||◌, ltb, List, [], ◌∷◌, ◌++◌, length, sym, refl, ap, ◌∙◌, inl, inr, arith}
use Rattle.std.specs.List.{AllByRecursion}
use Rattle.std.proofs.lemmas.List.{length-append}
use Rattle.std.proofs.ByRecursion.{All-push}
use Rattle.std.proofs.lemmas.Bool.{or_parts, or_from, cases_Bool, ltb-true}
use Rattle.index.specs.Keys.{Key, same_key}
use Rattle.index.specs.Rows.{has}
use Rattle.index.specs.SameKeys.{same_key_true}
use Rattle.property.specs.Lists.{Property, same_property, list_limit}
use Rattle.message.specs.Grammar.{property_bytes}
use Rattle.message.proofs.Rewrites.{ToldBy, list_from, list_parts}
use Rattle.message.proofs.Indexing.{ApartKeys, WellList, other_key}
use Rattle.editing.specs.Slots.{has_key, replace_property, put_in, without_key}

-- No key stands twice, said by keys.
has_is : (ps : List Property) (p : Property) → has same_property ps p ≡ has_key p.key ps
has_is [] p = refl
has_is (q ∷ ps) p = ap (λ b. same_key q.key p.key || b) (has_is ps p)

abbrev pub KeysApart : List Property → Type 0
KeysApart [] = Unit {0}
KeysApart (p ∷ ps) = (has_key p.key ps ≡ false) × KeysApart ps

pub keys_apart : (ps : List Property) → ApartKeys ps → KeysApart ps
keys_apart [] a = tt
keys_apart (p ∷ ps) a = (sym (has_is ps p) ∙ a.0, keys_apart ps a.1)

apart_keys : (ps : List Property) → KeysApart ps → ApartKeys ps
apart_keys [] a = tt
apart_keys (p ∷ ps) a = (has_is ps p ∙ a.0, apart_keys ps a.1)

has_push : (k : Key) (ps : List Property) (p : Property) → has_key k ps ≡ false → same_key p.key k ≡ false → has_key k (ps ++ p ∷ []) ≡ false
has_push k [] p a b = rw b
has_push k (q ∷ ps) p a b = let (c, d) = or_parts _ _ a in or_from _ _ c (has_push k ps p d b)

apart_push : (ps : List Property) (p : Property) → KeysApart ps → has_key p.key ps ≡ false → KeysApart (ps ++ p ∷ [])
apart_push [] p a b = (refl, tt)
apart_push (q ∷ ps) p a b = let (c, d) = or_parts _ _ b in (has_push q.key ps p a.0 (other_key q.key p.key c), apart_push ps p a.1 d)

-- Properties put.
replace_all : (P : Property → Type 0) (ps : List Property) (p : Property) → AllByRecursion P ps → P p → AllByRecursion P (replace_property ps p)
replace_all P [] p a b = tt
replace_all P (q ∷ qs) p a b =
    elim (cases_Bool (same_key q.key p.key)) [
      | inl t ↦ rw t (b, a.1)
      | inr f ↦ rw f (a.0, replace_all P qs p a.1 b)
    ]

replace_length : (ps : List Property) (p : Property) → length (replace_property ps p) ≡ length ps
replace_length [] p = refl
replace_length (q ∷ qs) p =
    elim (cases_Bool (same_key q.key p.key)) [
      | inl t ↦ rw t
      | inr f ↦ rw (f, replace_length qs p)
    ]

replace_has : (k : Key) (ps : List Property) (p : Property) → has_key k (replace_property ps p) ≡ has_key k ps
replace_has k [] p = refl
replace_has k (q ∷ qs) p =
    elim (cases_Bool (same_key q.key p.key)) [
      | inl t ↦ rw t (ap (λ l. same_key l k || has_key k qs) (sym (same_key_true _ _ t)))
      | inr f ↦ rw (f, replace_has k qs p)
    ]

replace_apart : (ps : List Property) (p : Property) → KeysApart ps → KeysApart (replace_property ps p)
replace_apart [] p a = tt
replace_apart (q ∷ qs) p a =
    elim (cases_Bool (same_key q.key p.key)) [
      | inl t ↦ rw t (ap (λ l. has_key l qs) (sym (same_key_true q.key p.key t)) ∙ a.0, a.1)
      | inr f ↦ rw f (replace_has q.key qs p ∙ a.0, replace_apart qs p a.1)
    ]

pub put_well : (ps : List Property) (p : Property) → WellList ps → ToldBy property_bytes p → (has_key p.key ps || ltb (length ps) list_limit) ≡ true → WellList (put_in ps p)
put_well ps p w v room =
    let (all, few) = list_parts ps w.0 in
    let apart = keys_apart ps w.1 in
    elim (cases_Bool (has_key p.key ps)) [
      | inl t ↦
          rw t (
            list_from (replace_property ps p) (omega (arith, replace_length ps p)) (replace_all (ToldBy property_bytes) ps p all v),
            apart_keys (replace_property ps p) (replace_apart ps p apart),
          )
      | inr f ↦
          let less : ltb (length ps) list_limit ≡ true = rw f at room in
          let l = ltb-true (length ps) list_limit less in
          rw f (
            list_from (ps ++ p ∷ []) (omega (arith, length-append ps (p ∷ []))) (All-push (ToldBy property_bytes) ps p all v),
            apart_keys (ps ++ p ∷ []) (apart_push ps p apart f),
          )
    ]

-- Properties dropped.
drop_all : (P : Property → Type 0) (k : Key) (ps : List Property) → AllByRecursion P ps → AllByRecursion P (without_key k ps)
drop_all P k [] a = tt
drop_all P k (q ∷ qs) a =
    elim (cases_Bool (same_key q.key k)) [
      | inl t ↦ rw t a.1
      | inr f ↦ rw f (a.0, drop_all P k qs a.1)
    ]

drop_length : (k : Key) (ps : List Property) → length (without_key k ps) ≤ length ps
drop_length k [] = omega arith
drop_length k (q ∷ qs) =
    elim (cases_Bool (same_key q.key k)) [
      | inl t ↦ rw t (omega arith)
      | inr f ↦ rw f (omega (arith, drop_length k qs))
    ]

drop_has : (j k : Key) (ps : List Property) → has_key j ps ≡ false → has_key j (without_key k ps) ≡ false
drop_has j k [] a = refl
drop_has j k (q ∷ qs) a =
    let (b, c) = or_parts (same_key q.key j) (has_key j qs) a in
    elim (cases_Bool (same_key q.key k)) [
      | inl t ↦ rw t c
      | inr f ↦ rw f (or_from _ _ b (drop_has j k qs c))
    ]

drop_apart : (k : Key) (ps : List Property) → KeysApart ps → KeysApart (without_key k ps)
drop_apart k [] a = tt
drop_apart k (q ∷ qs) a =
    elim (cases_Bool (same_key q.key k)) [
      | inl t ↦ rw t a.1
      | inr f ↦ rw f (drop_has q.key k qs a.0, drop_apart k qs a.1)
    ]

pub drop_well : (k : Key) (ps : List Property) → WellList ps → WellList (without_key k ps)
drop_well k ps w =
    let (all, few) = list_parts ps w.0 in (
      list_from (without_key k ps) (omega (arith, drop_length k ps)) (drop_all (ToldBy property_bytes) k ps all),
      apart_keys (without_key k ps) (drop_apart k ps (keys_apart ps w.1)),
    )
