-- What an index keeps, row by row.
use Rattle.std.proofs.Common.{◌≡◌, ◌<◌, Bool, true, false, cond, ◌||◌, List, [], ◌∷◌, ◌++◌, length, Some, None, fold, Option, sym, refl, ap, ◌∙◌, inl, inr, arith}
use Rattle.std.specs.List.{AllByRecursion}
use Rattle.std.proofs.lemmas.List.{append-nil, append_assoc, reverse-append}
use Rattle.std.proofs.ByRecursion.{All-push, All-weaker}
use Rattle.std.proofs.lemmas.Bool.{cases_Bool, both_ways, or_parts, or_from, or_left, or_right}
use Rattle.index.specs.Rows.{has, before, replaced, added}
use Rattle.index.specs.Laws.{found, standing, Apart, InOrder, Kept, Lawful}

module _ {R : Type 0} (same : R → R → Bool) (itself : (x : R) → same x x ≡ true)
    (turned : (x y : R) → same x y ≡ true → same y x ≡ true)
    (through : (x y z : R) → same x y ≡ true → same y z ≡ true → same x z ≡ true) where
  -- Rows with one key are told from the others alike.
  same_right : (x y z : R) → same x y ≡ true → same z x ≡ same z y
  same_right x y z e = grind (arith, turned x y, through z x y, through z y x)

  same_left : (x y z : R) → same x y ≡ true → same x z ≡ same y z
  same_left x y z e = grind (arith, turned x y, through y x z, through x y z)

  has_like : (x y : R) (rows : List R) → same x y ≡ true → has same rows x ≡ has same rows y
  has_like x y [] e = refl
  has_like x y (z ∷ zs) e = rw (same_right x y z e, has_like x y zs e)

  before_like : (x y : R) (rows : List R) → same x y ≡ true → before same rows x ≡ before same rows y
  before_like x y [] e = refl
  before_like x y (z ∷ zs) e = rw (same_right x y z e, before_like x y zs e)

  has_itself : (rows : List R) → AllByRecursion (λ x. has same rows x ≡ true) rows
  has_itself [] = tt
  has_itself (x ∷ xs) =
      (or_left (same x x) (has same xs x) (itself x), All-weaker _ _ (λ y h. or_right (same x y) (has same xs y) h) xs (has_itself xs))

  -- One more row that came.
  has_push : (came : List R) (r q : R) → has same (came ++ r ∷ []) q ≡ (has same came q || same r q)
  has_push [] r q = grind arith
  has_push (x ∷ xs) r q = grind (arith, has_push xs r q)

  before_known : (came : List R) (r q : R) → has same came q ≡ true → (before same (came ++ r ∷ []) q ≡ before same came q) × (before same came q < length came)
  before_known [] r q h = absurd (both_ways false refl h)
  before_known (x ∷ xs) r q h = grind (arith, before_known xs r q)

  before_new : (came : List R) (r : R) → has same came r ≡ false → before same (came ++ r ∷ []) r ≡ length came
  before_new [] r h = rw (itself r)
  before_new (x ∷ xs) r h = grind (arith, before_new xs r)

  found_none : (rows : List R) (q : R) → has same rows q ≡ false → found same rows q ≡ None
  found_none [] q h = refl
  found_none (x ∷ xs) q h = let (a, b) = or_parts (same x q) (has same xs q) h in rw a (found_none xs q b)

  found_push : (rows : List R) (r q : R) → found same (rows ++ r ∷ []) q ≡ cond (has same rows q) (found same rows q) (cond (same r q) (Some r) None)
  found_push [] r q = refl
  found_push (x ∷ xs) r q = grind (arith, found_push xs r q)

  -- A row in the place of another with its key.
  has_replaced : (rows : List R) (r q : R) → has same (replaced same rows r) q ≡ has same rows q
  has_replaced [] r q = refl
  has_replaced (x ∷ xs) r q = grind (arith, has_replaced xs r q, same_left x r q)

  found_replaced : (rows : List R) (r q : R) → has same rows r ≡ true → found same (replaced same rows r) q ≡ cond (same r q) (Some r) (found same rows q)
  found_replaced [] r q h = absurd (both_ways false refl h)
  found_replaced (x ∷ xs) r q h = grind (arith, found_replaced xs r q, same_left x r q, through x q r, turned r q)

  apart_replaced : (rows : List R) (r : R) → Apart same rows → Apart same (replaced same rows r)
  apart_replaced [] r a = tt
  apart_replaced (x ∷ xs) r a =
      elim (cases_Bool (same x r)) [
        | inl t ↦ rw t (sym (has_like x r xs t) ∙ a.0, a.1)
        | inr f ↦ rw f (has_replaced xs r x ∙ a.0, apart_replaced xs r a.1)
      ]

  all_replaced : (P : R → Type 0) (r : R) (rows : List R) → ((x : R) → same x r ≡ true → P x → P r) → AllByRecursion P rows → AllByRecursion P (replaced same rows r)
  all_replaced P r [] p a = tt
  all_replaced P r (x ∷ xs) p a =
      elim (cases_Bool (same x r)) [
        | inl t ↦ rw t (p x t a.0, a.1)
        | inr f ↦ rw f (a.0, all_replaced P r xs p a.1)
      ]

  order_replaced : (came rows : List R) (r : R) → InOrder same came rows → InOrder same came (replaced same rows r)
  order_replaced came [] r o = tt
  order_replaced came (x ∷ xs) r o =
      elim (cases_Bool (same x r)) [
        | inl t ↦ rw t (rw (before_like x r came t) at o.0, o.1)
        | inr f ↦ rw f (all_replaced (λ y. before same came x < before same came y) r xs (λ y t h. rw (before_like y r came t) at h) o.0, order_replaced came xs r o.1)
      ]

  -- More came, with or without a new row.
  order_grown : (came rows : List R) (r : R) → AllByRecursion (λ x. has same came x ≡ true) rows → InOrder same came rows → InOrder same (came ++ r ∷ []) rows
  order_grown came [] r k o = tt
  order_grown came (x ∷ xs) r k o = (all_grown xs k.1 o.0, order_grown came xs r k.1 o.1)
    where
      all_grown : (ys : List R) → AllByRecursion (λ y. has same came y ≡ true) ys → AllByRecursion (λ y. before same came x < before same came y) ys
          → AllByRecursion (λ y. before same (came ++ r ∷ []) x < before same (came ++ r ∷ []) y) ys
      all_grown [] k a = tt
      all_grown (y ∷ ys) l a = (rw ((before_known came r x k.0).0, (before_known came r y l.0).0) a.0, all_grown ys l.1 a.1)

  order_push : (came rows : List R) (r : R) → InOrder same came rows → AllByRecursion (λ x. before same came x < before same came r) rows → InOrder same came (rows ++ r ∷ [])
  order_push came [] r o a = (tt, tt)
  order_push came (x ∷ xs) r o a = (All-push _ xs r o.0 a.0, order_push came xs r o.1 a.1)

  apart_push : (rows : List R) (r : R) → Apart same rows → has same rows r ≡ false → Apart same (rows ++ r ∷ [])
  apart_push [] r a h = (refl, tt)
  apart_push (x ∷ xs) r a h =
      let (b, d) = or_parts (same x r) (has same xs r) h in
      (has_push xs r x ∙ or_from _ _ a.0 (unturned r x b), apart_push xs r a.1 d)
    where
      unturned : (x y : R) → same y x ≡ false → same x y ≡ false
      unturned x y e = grind (arith, turned x y)

  standing_push : (later : Bool) (came : List R) (r q : R)
      → standing same later (came ++ r ∷ []) q ≡ cond later (cond (same r q) (Some r) (standing same later came q)) (cond (has same came q) (standing same later came q) (cond (same r q) (Some r) None))
  standing_push true came r q = rw (reverse-append came (r ∷ []))
  standing_push false came r q = found_push came r q

  module _ (later : Bool) (came rows : List R) (k : Kept same later came rows) (r : R) where
    known : AllByRecursion (λ x. has same came x ≡ true) rows
    known = All-weaker _ _ (λ x h. sym (k.keys x) ∙ h) rows (has_itself rows)

    -- A new key goes to the end.
    kept_new : has same rows r ≡ false → Kept same later (came ++ r ∷ []) (rows ++ r ∷ [])
    kept_new h =
        let n : has same came r ≡ false = sym (k.keys r) ∙ h in
        record {
          keys = λ q. has_push rows r q ∙ ap (λ b. b || same r q) (k.keys q) ∙ sym (has_push came r q);
          apart = apart_push rows r k.apart h;
          order = order_push (came ++ r ∷ []) rows r (order_grown came rows r known k.order)
              (All-weaker _ _ (λ x b. let (e, l) = before_known came r x b in rw (e, before_new came r n) l) rows known);
          stands = λ q. found_push rows r q ∙ stands_new later q (k.stands q) ∙ sym (standing_push later came r q);
        }
      where
        stands_new : (later : Bool) (q : R) → found same rows q ≡ standing same later came q
            → cond (has same rows q) (found same rows q) (cond (same r q) (Some r) None)
            ≡ cond later (cond (same r q) (Some r) (standing same later came q)) (cond (has same came q) (standing same later came q) (cond (same r q) (Some r) None))
        stands_new true q e = grind (arith, has_like r q rows, found_none rows q)
        stands_new false q e = rw (e, k.keys q)

  -- A key that came before comes again.
  module _ (came : List R) (r : R) (h : has same came r ≡ true) (q : R) where
    has_again : has same (came ++ r ∷ []) q ≡ has same came q
    has_again = grind (arith, has_push came r q, has_like r q came)

    found_again : found same (came ++ r ∷ []) q ≡ found same came q
    found_again = grind (arith, found_push came r q, has_like r q came, found_none came q)

  kept_more : (later : Bool) (came rows : List R) → Kept same later came rows → (r : R) → Kept same later (came ++ r ∷ []) (added same later rows r)
  kept_more later came rows k r =
      elim (cases_Bool (has same rows r)) [
        | inl t ↦ rw t (again later came rows k r (sym (k.keys r) ∙ t) t)
        | inr f ↦ rw f (kept_new later came rows k r f)
      ]
    where
      -- an earlier row gives its place, or stays
      again : (later : Bool) (came rows : List R) → Kept same later came rows → (r : R) → has same came r ≡ true → has same rows r ≡ true
          → Kept same later (came ++ r ∷ []) (cond later (replaced same rows r) rows)
      again true came rows k r c h =
          record {
            keys = λ q. has_replaced rows r q ∙ k.keys q ∙ sym (has_again came r c q);
            apart = apart_replaced rows r k.apart;
            order = order_replaced (came ++ r ∷ []) rows r (order_grown came rows r (known true came rows k r) k.order);
            stands = λ q. found_replaced rows r q h ∙ ap (cond (same r q) (Some r)) (k.stands q) ∙ sym (standing_push true came r q);
          }
      again false came rows k r c h =
          record {
            keys = λ q. k.keys q ∙ sym (has_again came r c q);
            apart = k.apart;
            order = order_grown came rows r (known false came rows k r) k.order;
            stands = λ q. k.stands q ∙ sym (found_again came r c q);
          }

  kept_all : (later : Bool) (came rows rest : List R) → Kept same later came rows → Kept same later (came ++ rest) (fold (added same later) rows rest)
  kept_all later came rows [] k = rw (append-nil came) k
  kept_all later came rows (r ∷ rest) k =
      rw (append_assoc came (r ∷ []) rest) at (kept_all later (came ++ r ∷ []) (added same later rows r) rest (kept_more later came rows k r))

  pub lawful : (later : Bool) → Lawful same later
  lawful later came = kept_all later [] [] came (record { keys = λ r. refl; apart = tt; order = tt; stands = λ r. none later })
    where
      none : (later : Bool) → ◌≡◌ {A = Option R} None (cond later None None)
      none true = refl
      none false = refl
