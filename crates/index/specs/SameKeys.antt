-- `same_key` decides the equality of keys.
use Rattle.std.specs.Prelude.{◌≡◌, ℕ, Bool, true, false, List, Decides, refl}
use Rattle.std.proofs.Common.{ap}
use Rattle.std.specs.Cmp.{IsEquivalence, decided}
use Rattle.std.specs.Str.{bytes_eq}
use Rattle.std.proofs.lemmas.Slice.Eq.{bytes_eq-Decides}
use Rattle.std.proofs.lemmas.Bool.{eqb-true, eq-eqb, and_parts, and_from, both_ways}
use Rattle.index.specs.Keys.{Key, tag, numbered, named, same_key}

bytes_itself : (xs : List ℕ) → bytes_eq xs xs ≡ true
bytes_itself xs = (bytes_eq-Decides xs xs).1 refl

pub key_itself : (k : Key) → same_key k k ≡ true
key_itself (tag i) = eq-eqb i i refl
key_itself (numbered g n) = and_from _ _ (bytes_itself g) (eq-eqb n n refl)
key_itself (named g s) = and_from _ _ (bytes_itself g) (bytes_itself s)

pub same_key_true : (k l : Key) → same_key k l ≡ true → k ≡ l
same_key_true (tag i) (tag j) e = ap tag (eqb-true i j e)
same_key_true (tag i) (numbered g n) e = absurd (both_ways false refl e)
same_key_true (tag i) (named g s) e = absurd (both_ways false refl e)
same_key_true (numbered g n) (tag j) e = absurd (both_ways false refl e)
same_key_true (numbered g n) (numbered h m) e =
    let (a, b) = and_parts _ _ e in rw ((bytes_eq-Decides g h).0 a, eqb-true n m b)
same_key_true (numbered g n) (named h s) e = absurd (both_ways false refl e)
same_key_true (named g s) (tag j) e = absurd (both_ways false refl e)
same_key_true (named g s) (numbered h m) e = absurd (both_ways false refl e)
same_key_true (named g s) (named h t) e =
    let (a, b) = and_parts _ _ e in rw ((bytes_eq-Decides g h).0 a, (bytes_eq-Decides s t).0 b)

pub same_key_from : (k l : Key) → k ≡ l → same_key k l ≡ true
same_key_from k l e = rw e (key_itself l)

pub decides_key : (r : Bool) (k l : Key) → r ≡ same_key k l → Decides r (k ≡ l)
decides_key r k l e = rw e (same_key_true k l, same_key_from k l)

-- Things with one key are alike.
pub alike_by_key : {A : Type 0} (key : A → Key) → IsEquivalence (λ x y. same_key (key x) (key y))
alike_by_key key =
    let d : IsEquivalence same_key = decided same_key (λ k l. (same_key_true k l, same_key_from k l)) in
    record { refl = λ x. d.refl (key x); symm = λ x y. d.symm (key x) (key y); congr = λ x y z. d.congr (key x) (key y) (key z) }
