-- Lists in another order, and what does not hang on the order.
use Rattle.std.proofs.Common.{◌≡◌, Bool, true, false, cond, not, ◌||◌, ◌⊎◌, List, [], ◌∷◌, ◌++◌, map, None, Option, sym, refl, ap, ◌∙◌, inl, inr}
use Rattle.std.specs.List.{flat_map, AllByRecursion}
use Rattle.std.proofs.lemmas.List.{append_assoc, append-nil}
use Rattle.std.proofs.lemmas.Bool.{cases_Bool}
use Rattle.index.specs.Keys.{Key, same_key}
use Rattle.index.specs.SameKeys.{same_key_true}
use Rattle.stream.specs.Messages.{or_default}
use Rattle.promise.specs.Commuting.{Reordered, none, skip, swap, join, Among, Distinct, kept}

-- What holds of each, and of each two.
pub all_reordered : {A : Type 0} (P : A → Type 0) (xs ys : List A) → Reordered xs ys → AllByRecursion P xs → AllByRecursion P ys
all_reordered P _ _ none a = a
all_reordered P _ _ (skip {xs = xs} {ys = ys} r) a = (a.0, all_reordered P xs ys r a.1)
all_reordered P _ _ swap a = (a.1.0, (a.0, a.1.1))
all_reordered P _ _ (join {xs = xs} {ys = ys} {zs = zs} r s) a = all_reordered P ys zs s (all_reordered P xs ys r a)

abbrev pub Pairwise : {A : Type 0} → (A → A → Type 0) → List A → Type 0
Pairwise R [] = Unit {0}
Pairwise R (x ∷ xs) = AllByRecursion (R x) xs × Pairwise R xs

pub pairwise_reordered : {A : Type 0} (R : A → A → Type 0) → ((x y : A) → R x y → R y x) → (xs ys : List A) → Reordered xs ys → Pairwise R xs → Pairwise R ys
pairwise_reordered R s _ _ none a = a
pairwise_reordered R s _ _ (skip {x = x} {xs = xs} {ys = ys} r) a = (all_reordered (R x) xs ys r a.0, pairwise_reordered R s xs ys r a.1)
pairwise_reordered R s _ _ (swap {x = x} {y = y}) a = ((s x y a.0.0, a.1.0), (a.0.1, a.1.1))
pairwise_reordered R s _ _ (join {xs = xs} {ys = ys} {zs = zs} r t) a = pairwise_reordered R s ys zs t (pairwise_reordered R s xs ys r a)

-- What a run makes of one place, if each step sets it or leaves it.
abbrev pub last_set : {A V : Type 0} → (A → Option V) → List A → V → V
last_set s [] v = v
last_set s (x ∷ xs) v = last_set s xs (or_default (s x) v)

abbrev pub OneSets : {A V : Type 0} → (A → Option V) → A → A → Type 0
OneSets s x y = (s x ≡ None) ⊎ (s y ≡ None)

one_other : {A V : Type 0} (s : A → Option V) (x y : A) → OneSets s x y → OneSets s y x
one_other s x y (inl e) = inr e
one_other s x y (inr e) = inl e

sets_swap : {V : Type 0} (a b : Option V) (v : V) → (a ≡ None) ⊎ (b ≡ None) → or_default b (or_default a v) ≡ or_default a (or_default b v)
sets_swap a b v (inl e) = rw e
sets_swap a b v (inr e) = rw e

pub last_reordered : {A V : Type 0} (s : A → Option V) (xs ys : List A) → Reordered xs ys → Pairwise (OneSets s) xs → (v : V) → last_set s xs v ≡ last_set s ys v
last_reordered s _ _ none p v = refl
last_reordered s _ _ (skip {x = x} {xs = xs} {ys = ys} r) p v = last_reordered s xs ys r p.1 (or_default (s x) v)
last_reordered s _ _ (swap {x = x} {y = y} {xs = xs}) p v = ap (last_set s xs) (sets_swap (s x) (s y) v p.0.0)
last_reordered s _ _ (join {xs = xs} {ys = ys} {zs = zs} r t) p v =
    last_reordered s xs ys r p v ∙ last_reordered s ys zs t (pairwise_reordered (OneSets s) (one_other s) xs ys r p) v

-- From things apart to pairs.
pub distinct_pairs : {A B : Type 0} (f : A → B) (R : A → A → Type 0) → ((x y : A) → (f x ≡ f y → ⊥) → R x y) → (xs : List A) → Distinct (map f xs) → Pairwise R xs
distinct_pairs {A} f R g [] a = tt
distinct_pairs {A} f R g (x ∷ xs) a = (each xs a.0, distinct_pairs f R g xs a.1)
  where
    each : (ys : List A) → (Among (f x) (map f ys) → ⊥) → AllByRecursion (R x) ys
    each [] n = tt
    each (y ∷ ys) n = (g x y (λ e. n (inl e)), each ys (λ i. n (inr i)))

-- What one step does to the keys of a target.
pub data Mark : Type 0 where
  adds : Key → Mark
  removes : Key → Mark
  nothing : Mark

abbrev pub has : Key → List Key → Bool
has k [] = false
has k (l ∷ ls) = same_key l k || has k ls

abbrev pub removed : Key → List Key → List Key
removed k [] = []
removed k (l ∷ ls) = cond (same_key l k) ls (l ∷ removed k ls)

abbrev pub moved : Mark → List Key → List Key
moved (adds k) ks = cond (has k ks) ks (ks ++ k ∷ [])
moved (removes k) ks = removed k ks
moved nothing ks = ks

abbrev pub all_moved : {A : Type 0} → (A → Mark) → List A → List Key → List Key
all_moved f [] ks = ks
all_moved f (x ∷ xs) ks = all_moved f xs (moved (f x) ks)

abbrev less : Mark → List Key → List Key
less (adds k) ks = ks
less (removes k) ks = removed k ks
less nothing ks = ks

abbrev pub all_less : {A : Type 0} → (A → Mark) → List A → List Key → List Key
all_less f [] ks = ks
all_less f (x ∷ xs) ks = all_less f xs (less (f x) ks)

abbrev pub news : Mark → List Key → List Key
news (adds k) ks = cond (has k ks) [] (k ∷ [])
news (removes k) ks = []
news nothing ks = []

abbrev pub all_news : {A : Type 0} → (A → Mark) → List A → List Key → List Key
all_news f [] ks = []
all_news f (x ∷ xs) ks = news (f x) ks ++ all_news f xs ks

abbrev pub Off : Key → Mark → Type 0
Off k (adds l) = same_key k l ≡ false
Off k (removes l) = same_key k l ≡ false
Off k nothing = Unit {0}

abbrev pub Differ : Mark → Mark → Type 0
Differ (adds k) b = Off k b
Differ (removes k) b = Off k b
Differ nothing b = Unit {0}

has_push : (k l : Key) (ks : List Key) → same_key l k ≡ false → has k (ks ++ l ∷ []) ≡ has k ks
has_push k l [] e = rw e
has_push k l (x ∷ ks) e = ap (λ b. same_key x k || b) (has_push k l ks e)

has_removed : (k l : Key) (ks : List Key) → same_key l k ≡ false → has k (removed l ks) ≡ has k ks
has_removed k l [] e = refl
has_removed k l (x ∷ ks) e =
    elim (cases_Bool (same_key x l)) [
      | inl t ↦ let other : same_key x k ≡ false = ap (λ y. same_key y k) (same_key_true x l t) ∙ e in rw (t, other)
      | inr f ↦ rw (f, has_removed k l ks e)
    ]

removed_push : (k l : Key) (ks : List Key) → same_key l k ≡ false → removed k (ks ++ l ∷ []) ≡ removed k ks ++ l ∷ []
removed_push k l [] e = rw e
removed_push k l (x ∷ ks) e =
    elim (cases_Bool (same_key x k)) [
      | inl t ↦ rw t
      | inr f ↦ rw (f, removed_push k l ks e)
    ]

removed_swap : (k l : Key) (ks : List Key) → removed k (removed l ks) ≡ removed l (removed k ks)
removed_swap k l [] = refl
removed_swap k l (x ∷ ks) =
    elim (cases_Bool (same_key x k)) [
      | inl t ↦
          elim (cases_Bool (same_key x l)) [
            | inl u ↦ let same : k ≡ l = sym (same_key_true x k t) ∙ same_key_true x l u in rw (t, u, same)
            | inr g ↦ rw (t, g, t)
          ]
      | inr f ↦
          elim (cases_Bool (same_key x l)) [
            | inl u ↦ rw (f, u)
            | inr g ↦ rw (f, g, f, removed_swap k l ks)
          ]
    ]

less_swap : (a b : Mark) (ks : List Key) → less b (less a ks) ≡ less a (less b ks)
less_swap (adds k) b ks = refl
less_swap (removes k) (adds l) ks = refl
less_swap (removes k) (removes l) ks = removed_swap l k ks
less_swap (removes k) nothing ks = refl
less_swap nothing b ks = refl

pub less_reordered : {A : Type 0} (f : A → Mark) (xs ys : List A) → Reordered xs ys → (ks : List Key) → all_less f xs ks ≡ all_less f ys ks
less_reordered f _ _ none ks = refl
less_reordered f _ _ (skip {x = x} {xs = xs} {ys = ys} r) ks = less_reordered f xs ys r (less (f x) ks)
less_reordered f _ _ (swap {x = x} {y = y} {xs = xs}) ks = ap (all_less f xs) (less_swap (f x) (f y) ks)
less_reordered f _ _ (join {xs = xs} {ys = ys} {zs = zs} r t) ks = less_reordered f xs ys r ks ∙ less_reordered f ys zs t ks

less_push : (a : Mark) (k : Key) (ks : List Key) → Off k a → less a (ks ++ k ∷ []) ≡ less a ks ++ k ∷ []
less_push (adds l) k ks o = refl
less_push (removes l) k ks o = removed_push l k ks o
less_push nothing k ks o = refl

all_less_push : {A : Type 0} (f : A → Mark) (xs : List A) (k : Key) (ks : List Key) → AllByRecursion (λ x. Off k (f x)) xs → all_less f xs (ks ++ k ∷ []) ≡ all_less f xs ks ++ k ∷ []
all_less_push f [] k ks o = refl
all_less_push f (x ∷ xs) k ks o = ap (all_less f xs) (less_push (f x) k ks o.0) ∙ all_less_push f xs k (less (f x) ks) o.1

news_push : (a : Mark) (k : Key) (ks : List Key) → Off k a → news a (ks ++ k ∷ []) ≡ news a ks
news_push (adds l) k ks o = rw (has_push l k ks o)
news_push (removes l) k ks o = refl
news_push nothing k ks o = refl

news_removed : (a : Mark) (k : Key) (ks : List Key) → Off k a → news a (removed k ks) ≡ news a ks
news_removed (adds l) k ks o = rw (has_removed l k ks o)
news_removed (removes l) k ks o = refl
news_removed nothing k ks o = refl

all_news_push : {A : Type 0} (f : A → Mark) (xs : List A) (k : Key) (ks : List Key) → AllByRecursion (λ x. Off k (f x)) xs → all_news f xs (ks ++ k ∷ []) ≡ all_news f xs ks
all_news_push f [] k ks o = refl
all_news_push f (x ∷ xs) k ks o = rw (news_push (f x) k ks o.0, all_news_push f xs k ks o.1)

all_news_removed : {A : Type 0} (f : A → Mark) (xs : List A) (k : Key) (ks : List Key) → AllByRecursion (λ x. Off k (f x)) xs → all_news f xs (removed k ks) ≡ all_news f xs ks
all_news_removed f [] k ks o = refl
all_news_removed f (x ∷ xs) k ks o = rw (news_removed (f x) k ks o.0, all_news_removed f xs k ks o.1)

-- The keys after a run: the old ones less those removed, then the new ones in order.
pub keys_after : {A : Type 0} (f : A → Mark) (xs : List A) (ks : List Key) → Pairwise (λ x y. Differ (f x) (f y)) xs → all_moved f xs ks ≡ all_less f xs ks ++ all_news f xs ks
keys_after f [] ks p = sym (append-nil ks)
keys_after {A} f (x ∷ xs) ks p = go (f x) p.0 (λ ls. keys_after f xs ls p.1)
  where
    go : (a : Mark) → AllByRecursion (λ y. Differ a (f y)) xs → ((ls : List Key) → all_moved f xs ls ≡ all_less f xs ls ++ all_news f xs ls) →
        all_moved f xs (moved a ks) ≡ all_less f xs (less a ks) ++ (news a ks ++ all_news f xs ks)
    go (adds k) o ih =
        elim (cases_Bool (has k ks)) [
          | inl t ↦ rw t (ih ks)
          | inr n ↦
              rw n (ih (ks ++ k ∷ []) ∙ (ap (λ l. l ++ all_news f xs (ks ++ k ∷ [])) (all_less_push f xs k ks o)
              ∙ (append_assoc (all_less f xs ks) (k ∷ []) (all_news f xs (ks ++ k ∷ []))
              ∙ ap (λ l. all_less f xs ks ++ k ∷ l) (all_news_push f xs k ks o))))
        ]
    go (removes k) o ih = ih (removed k ks) ∙ ap (λ l. all_less f xs (removed k ks) ++ l) (all_news_removed f xs k ks o)
    go nothing o ih = ih ks

-- The keys that marks bring, where it is known which are new.
abbrev pub added : Mark → List Key
added (adds k) = k ∷ []
added (removes k) = []
added nothing = []

abbrev pub is_new : Mark → List Key → Bool
is_new (adds k) ks = not (has k ks)
is_new (removes k) ks = false
is_new nothing ks = false

pub news_kept : {A : Type 0} (f : A → Mark) (b : A → Bool) (ks : List Key) → ((x : A) → b x ≡ is_new (f x) ks) → (xs : List A) →
    all_news f xs ks ≡ flat_map (λ x. added (f x)) (kept b xs)
news_kept f b ks same [] = refl
news_kept {A} f b ks same (x ∷ xs) = go (f x) refl (news_kept f b ks same xs)
  where
    go : (a : Mark) → f x ≡ a → all_news f xs ks ≡ flat_map (λ x. added (f x)) (kept b xs) →
        news (f x) ks ++ all_news f xs ks ≡ flat_map (λ x. added (f x)) (cond (b x) (x ∷ kept b xs) (kept b xs))
    go (adds k) is ih =
        elim (cases_Bool (has k ks)) [
          | inl t ↦
              let no : b x ≡ false = same x ∙ (ap (λ a. is_new a ks) is ∙ ap not t) in
              rw (no, is, t) ih
          | inr n ↦
              let yes' : b x ≡ true = same x ∙ (ap (λ a. is_new a ks) is ∙ ap not n) in
              rw (yes', is, n) (ap (λ l. k ∷ l) ih)
        ]
    go (removes k) is ih = let no : b x ≡ false = same x ∙ ap (λ a. is_new a ks) is in rw (no, is) ih
    go nothing is ih = let no : b x ≡ false = same x ∙ ap (λ a. is_new a ks) is in rw (no, is) ih
