-- Folds over a part that comes in chunks.
use Rattle.std.proofs.Common.{◌≡◌, ℕ, ◌+◌, ◌-◌, ◌≤◌, List, [], ◌∷◌, ◌++◌, length, take, drop, fold, refl, arith, rules}
use borrow.Rule.Slice.PartMut.{post_of}
use Rattle.std.proofs.lemmas.List.{places, same_lists, drop-drop}
use Rattle.source.specs.Bytes.{part}

folded_append : {X : Type 0} (f : X → ℕ → X) (a : X) (xs ys : List ℕ) → fold f a (xs ++ ys) ≡ fold f (fold f a xs) ys
folded_append f a [] ys = refl
folded_append f a (x ∷ xs) ys = folded_append f (f a x) xs ys

take_add : (i n : ℕ) (xs : List ℕ) → take (i + n) xs ≡ take i xs ++ take n (drop i xs)
take_add i n xs = same_lists _ _ (search (rules, places)) (λ k d l. grind (arith, places))

-- One more chunk of n bytes: `front` is what was fetched into the front of the buffer, from a source that means xs, as ys before.
pub folded_step : {X : Type 0} (f : X → ℕ → X) (xs ys : List ℕ) (place done n : ℕ) (a b d : X) (front buffer : List ℕ)
    → front ≡ take (length (take (n - 0) buffer)) (drop (place + done) xs) → xs ≡ ys → n ≤ length buffer → place + done + n ≤ length ys
    → b ≡ fold f a (part ys place done) → d ≡ fold f b front
    → (length (front ++ post_of 0 (n - 0) buffer) ≡ length buffer) × (d ≡ fold f a (part ys place (done + n)))
unfolding part
folded_step f xs ys place done n a b d front buffer e s h l p q =
    let m : length (take (n - 0) buffer) ≡ n = search (rules, places) in
    let t : front ≡ take n (drop (place + done) ys) = cc in
    let u : front ≡ take n (drop done (drop place ys)) = rw drop-drop t in
    let v = folded_append f a (take done (drop place ys)) (take n (drop done (drop place ys))) in
    let w = take_add done n (drop place ys) in
    (search (rules, places), cc)
