-- Parts of a list, numbers as bytes, and padding.
use Rattle.std.proofs.Common.{◌≡◌, ℕ, zero, suc, ◌+◌, ◌/◌, List, [], ◌∷◌, ◌++◌, length, get_or, take, drop, replicate, sym, refl, ap, ◌∙◌, add-zero, arith, rules}
use Rattle.std.proofs.lemmas.List.{drop-drop, drop_at, take_at, places, same_lists, get_or-drop}
use Rattle.source.specs.Bytes.{Octets, le, part}

pub octets_le : (w n : ℕ) → Octets (le w n)
unfolding le
octets_le zero n = tt
octets_le (suc w) n = (omega arith, octets_le w (n / 256))

pub octets_zeros : (n : ℕ) → Octets (replicate n 0)
octets_zeros zero = tt
octets_zeros (suc n) = (omega arith, octets_zeros n)

pub octets_left : (xs ys : List ℕ) → Octets (xs ++ ys) → Octets xs × Octets ys
octets_left [] ys h = (tt, h)
octets_left (x ∷ xs) ys h = let (a, b) = octets_left xs ys h.1 in ((h.0, a), b)

pub drop_behind : (vs bs xs : List ℕ) (p : ℕ) → drop p xs ≡ vs ++ bs → drop (p + length vs) xs ≡ bs
drop_behind vs bs xs p e = rw (← drop-drop, e) (drop_at vs bs (length vs) refl)

-- A part of what is left.
pub part_left : (xs a b c : List ℕ) (p k n : ℕ) → drop p xs ≡ a ++ (b ++ c) → length a ≡ k → length b ≡ n → part xs (p + k) n ≡ b
unfolding part
part_left xs a b c p k n e la lb = rw (← drop-drop k p xs, e, drop_at a (b ++ c) k la, take_at b c n lb)

pub part_here : (xs b c : List ℕ) (p n : ℕ) → drop p xs ≡ b ++ c → length b ≡ n → part xs p n ≡ b
unfolding part
part_here xs b c p n e l = rw (e, take_at b c n l)

pub part_split : (xs : List ℕ) (p m n : ℕ) → part xs p (m + n) ≡ part xs p m ++ part xs (p + m) n
unfolding part
part_split xs p m n = rw (← drop-drop m p xs) (go m (drop p xs))
  where
    go : (m : ℕ) (ys : List ℕ) → take (m + n) ys ≡ take m ys ++ take n (drop m ys)
    go m ys = same_lists _ _ (search (rules, places)) (λ k d l. grind (arith, places))

pub get_or_left : (xs : List ℕ) (p y : ℕ) (ys : List ℕ) → drop p xs ≡ y ∷ ys → get_or xs p 0 ≡ y
get_or_left xs p y ys e = rw add-zero at (sym (get_or-drop p xs 0 0) ∙ ap (λ l. get_or l 0 0) e)

pub part_none : (xs : List ℕ) (p : ℕ) → part xs p 0 ≡ []
unfolding part
part_none xs p = refl
