-- Parts of lists: what `take n (drop i xs)` is where xs is a front, a join or a part of others.
use Rattle.std.proofs.Common.{◌≡◌, ℕ, ◌+◌, ◌-◌, ◌<◌, ◌≤◌, min, List, ◌++◌, length, take, drop, Ok, Err, Result, arith, rules}
use borrow.Rule.Slice.PartMut.{put_mid, post_of}
use Rattle.std.proofs.lemmas.List.{places, same_lists, length-take, length-drop, length-append, take_all}
use Rattle.std.proofs.ByRecursion.{All-take, All-drop, All-append}
use Rattle.source.specs.Bytes.{Octets}
use Rattle.source.specs.Content.{clamped, source_limit}
use Rattle.source.specs.Fetch.{Fetched}
use Rattle.source.specs.declared.refusals.Refusal.{Refusal}

pub part_of_front : {X : Type 0} (m n i : ℕ) (xs : List X) → i + n ≤ length (take m xs) → take n (drop i (take m xs)) ≡ take n (drop i xs)
part_of_front m n i xs h =
    same_lists _ _ (search (rules, places)) (λ k d l. grind (arith, places))

pub part_of_second : {X : Type 0} (n i : ℕ) (xs ys : List X) → length xs ≤ i → take n (drop i (xs ++ ys)) ≡ take n (drop (i - length xs) ys)
part_of_second n i xs ys h =
    same_lists _ _ (search (rules, places)) (λ k d l. grind (arith, places))

pub part_of_first : {X : Type 0} (n i : ℕ) (xs ys : List X) → i + n ≤ length xs → take n (drop i (xs ++ ys)) ≡ take n (drop i xs)
part_of_first n i xs ys h =
    same_lists _ _ (search (rules, places)) (λ k d l. grind (arith, places))

pub part_of_both : {X : Type 0} (n i : ℕ) (xs ys : List X) → i ≤ length xs → length xs ≤ i + n
    → take n (drop i (xs ++ ys)) ≡ take (length xs - i) (drop i xs) ++ take (n - (length xs - i)) (drop 0 ys)
part_of_both n i xs ys h k =
    same_lists _ _ (search (rules, places)) (λ k d l. grind (arith, places))

pub part_of_part : {X : Type 0} (n i size start : ℕ) (xs : List X) → i + n ≤ length (take size (drop start xs))
    → take n (drop i (take size (drop start xs))) ≡ take n (drop (start + i) xs)
part_of_part n i size start xs h =
    same_lists _ _ (search (rules, places)) (λ k d l. grind (arith, places))

pub length_clamped : (xs : List ℕ) → length (clamped xs) ≡ min source_limit (length xs)
unfolding clamped
length_clamped xs = length-take source_limit xs

pub clamped_all : (xs : List ℕ) → length xs ≤ source_limit → clamped xs ≡ xs
unfolding clamped
clamped_all xs h = take_all source_limit xs h

pub part_of_clamped : (n i : ℕ) (xs : List ℕ) → i + n ≤ length (clamped xs) → take n (drop i (clamped xs)) ≡ take n (drop i xs)
unfolding clamped
part_of_clamped n i xs h = part_of_front source_limit n i xs h

-- Bytes stay bytes.
pub octets_clamped : (xs : List ℕ) → Octets xs → Octets (clamped xs)
unfolding clamped
octets_clamped xs h = All-take (λ x. x < 256) source_limit xs h

pub octets_append : (xs ys : List ℕ) → Octets xs → Octets ys → Octets (xs ++ ys)
octets_append xs ys h k = All-append (λ x. x < 256) xs ys h k

pub octets_part : (size start : ℕ) (xs : List ℕ) → Octets xs → Octets (take size (drop start xs))
octets_part size start xs h = All-take (λ x. x < 256) size (drop start xs) (All-drop (λ x. x < 256) start xs h)

-- A fetch that falls into the second of two lists, into the first, or into both.
pub fetched_second : (xs ys : List ℕ) (a i : ℕ) (before after : List ℕ) (r : Result (Unit {0}) Refusal)
    → i + length before ≤ length (clamped (xs ++ ys)) → a ≡ length xs → a ≤ i
    → Fetched ys (i - a) before after r → Fetched (clamped (xs ++ ys)) i before after r
fetched_second xs ys a i before after (Ok x) k e h f =
    let l : length xs ≤ i = omega arith in (k, rw (part_of_clamped, part_of_second, ← e) f.1)
fetched_second xs ys a i before after (Err z) k e h f =
    (omega (arith, length_clamped (xs ++ ys), length-append xs ys), f.1, f.2)

pub fetched_first : (xs ys : List ℕ) (i : ℕ) (before after : List ℕ) (r : Result (Unit {0}) Refusal)
    → i + length before ≤ length (clamped (xs ++ ys)) → i + length before ≤ length xs
    → Fetched xs i before after r → Fetched (clamped (xs ++ ys)) i before after r
fetched_first xs ys i before after (Ok x) k h f = (k, rw (part_of_clamped, part_of_first) f.1)
fetched_first xs ys i before after (Err e) k h f = (omega arith, f.1, f.2)

pub fetched_window : (xs : List ℕ) (size start i : ℕ) (before after : List ℕ) (r : Result (Unit {0}) Refusal)
    → i + length before ≤ length (take size (drop start xs)) → start < length xs
    → Fetched xs (start + i) before after r → Fetched (take size (drop start xs)) i before after r
fetched_window xs size start i before after (Ok x) k h f = (k, rw part_of_part f.1)
fetched_window xs size start i before after (Err e) k h f =
    (omega (arith, length-take size (drop start xs), length-drop start xs), f.1, f.2)

-- Nothing is asked for of a window that lies past the end.
pub fetched_past : (xs : List ℕ) (size start i : ℕ) (before : List ℕ)
    → i + length before ≤ length (take size (drop start xs)) → length xs ≤ start
    → Fetched (take size (drop start xs)) i before before (Ok tt)
fetched_past xs size start i before k h =
    (k, same_lists _ _ (search (rules, places)) (λ j d l. omega (arith, length-take size (drop start xs), length-drop start xs)))

pub window_within : (xs : List ℕ) (size start i n : ℕ)
    → i + n ≤ length (take size (drop start xs)) → start < length xs → start + i + n ≤ length xs
window_within xs size start i n k h = omega (arith, length-take size (drop start xs), length-drop start xs)

-- A write to the first k elements, and then one to the rest.
pub both_parts : (k : ℕ) (xs front back : List ℕ) → k ≤ length xs → length front ≡ k → length back ≡ length xs - k
    → put_mid k (length xs - k) (front ++ post_of 0 (k - 0) xs) back ≡ front ++ back
both_parts k xs front back h e l = same_lists _ _ (search (rules, places)) (λ j d l. grind (arith, places))

pub fetched_both : (xs ys : List ℕ) (a i : ℕ) (before front after : List ℕ) (r : Result (Unit {0}) Refusal)
    → i + length before ≤ length (clamped (xs ++ ys)) → a ≡ length xs → i ≤ a → a ≤ i + length before
    → front ≡ take (length (take (a - i - 0) before)) (drop i xs)
    → Fetched ys 0 (take (length before - (a - i)) (drop (a - i) (front ++ post_of 0 (a - i - 0) before))) after r
    → Fetched (clamped (xs ++ ys)) i before (put_mid (a - i) (length before - (a - i)) (front ++ post_of 0 (a - i - 0) before) after) r
fetched_both xs ys a i before front after (Ok x) k e h l s f =
    let w : length (take (a - i - 0) before) ≡ a - i = search (rules, places) in
    let n : length front ≡ a - i = search (rules, places) in
    let m : length (take (length before - (a - i)) (drop (a - i) (front ++ post_of 0 (a - i - 0) before))) ≡ length before - (a - i) = search (rules, places) in
    let t = both_parts (a - i) before front after (omega arith) n (search (rules, places)) in
    let b : i ≤ length xs = omega arith in
    let d : length xs ≤ i + length before = omega arith in
    (k, rw (part_of_clamped, part_of_both, ← e) (let u = f.1 in cc))
fetched_both xs ys a i before front after (Err z) k e h l s f =
    let n : length front ≡ a - i = search (rules, places) in
    let m : length (take (length before - (a - i)) (drop (a - i) (front ++ post_of 0 (a - i - 0) before))) ≡ length before - (a - i) = search (rules, places) in
    absurd (omega (arith, f.0, length_clamped (xs ++ ys), length-append xs ys))
