-- Puts and drops of different items, in another order.
use Rattle.std.proofs.Common.{◌≡◌, true, false, List, [], ◌∷◌, ◌++◌, map, length, is_some, Some, None, Ok, Option, sym, refl, ap, ◌∙◌, arith}
use Rattle.std.specs.List.{flat_map, AllByRecursion}
use Rattle.std.proofs.lemmas.Bool.{both_ways}
use Rattle.attribute.specs.Table.{code_page_id}
use Rattle.stream.specs.Messages.{Message, Holding, or_default}
use Rattle.stream.specs.Writing.{written}
use Rattle.message.specs.declared.Target.{Target}
use Rattle.message.specs.declared.Target.TheVariants.{Message as to_message}
use Rattle.message.specs.Sameness.{holding, Same, keys_held, contents_at, property_under, keys_at}
use Rattle.message.proofs.Laying.{Well}
use Rattle.message.proofs.Forms.{well, same_equal}
use Rattle.editing.specs.Edits.{change}
use Rattle.editing.specs.Promise.{GivenOctets}
use Rattle.editing.proofs.Changes.{change_well}
use Rattle.draft.specs.Calls.{State, form, edited, left_by}
use Rattle.promise.specs.Runs.{after, AllAccepted, AllPossible}
use Rattle.promise.specs.Commuting.{Item, attribute, property, Touch, as_edit, item, Given, steps, Reordered, none, skip, swap, join, Distinct, kept, brings}
use Rattle.promise.specs.Canonical.{EditsCommute}
use Rattle.promise.proofs.Accepting.{edited_ok, settled, settled_form, settled_length}
use Rattle.promise.proofs.Orders.{all_moved, all_less, added, Differ, Pairwise, OneSets, last_set, all_reordered, pairwise_reordered, last_reordered, distinct_pairs, less_reordered, keys_after, news_kept}
use Rattle.promise.proofs.Touches.{contents_by, primary_by, property_by, mark, Stepped, steps_of}
use Rattle.promise.proofs.Items.{contents_item, primary_item, value_item, OtherItem, one_sets, differ, brings_new}

-- An accepted run of touches on messages.
abbrev Runs : Message → List Given → Message → Type 0
Runs m [] n = m ≡ n
Runs m (g ∷ gs) n = (k : Message) × (change (as_edit g.touch) m ≡ Ok k) × Well k × Runs k gs n

run_well : (gs : List Given) (m n : Message) → Well m → Runs m gs n → Well n
run_well [] m n w r = rw (← r) w
run_well (g ∷ gs) m n w (k, e, v, r) = run_well gs k n v r

run_last : {V : Type 0} (see : Message → V) (by : Touch → Option V) → ((g : Touch) (m n : Message) → Stepped g m n → see n ≡ or_default (by g) (see m)) →
    (gs : List Given) (m n : Message) → Well m → Runs m gs n → see n ≡ last_set (λ g. by g.touch) gs (see m)
run_last see by one [] m n w r = ap see (sym r)
run_last see by one (g ∷ gs) m n w (k, e, v, r) =
    run_last see by one gs k n v r ∙ ap (last_set (λ g. by g.touch) gs) (one g.touch m k (steps_of g.touch m k w e))

run_same : {V : Type 0} (see : Message → V) → ((g : Touch) (m n : Message) → Stepped g m n → see n ≡ see m) →
    (gs : List Given) (m n : Message) → Well m → Runs m gs n → see n ≡ see m
run_same see one [] m n w r = ap see (sym r)
run_same see one (g ∷ gs) m n w (k, e, v, r) = run_same see one gs k n v r ∙ one g.touch m k (steps_of g.touch m k w e)

run_keys : (t : Target) (gs : List Given) (m n : Message) → Well m → Runs m gs n → keys_at n t ≡ all_moved (λ g. mark t g.touch) gs (keys_at m t)
run_keys t [] m n w r = ap (λ x. keys_at x t) (sym r)
run_keys t (g ∷ gs) m n w (k, e, v, r) =
    run_keys t gs k n v r ∙ ap (all_moved (λ g. mark t g.touch) gs) ((steps_of g.touch m k w e).order t)

pairwise_weaker : {A : Type 0} (R S : A → A → Type 0) → ((x y : A) → R x y → S x y) → (xs : List A) → Pairwise R xs → Pairwise S xs
pairwise_weaker R S f [] p = tt
pairwise_weaker {A} R S f (x ∷ xs) p = (each xs p.0, pairwise_weaker R S f xs p.1)
  where
    each : (ys : List A) → AllByRecursion (R x) ys → AllByRecursion (S x) ys
    each [] a = tt
    each (y ∷ ys) a = (f x y a.0, each ys a.1)

none_held : (o : Option Holding) → is_some o ≡ false → keys_held o ≡ []
none_held (Some h) e = absurd (both_ways true e refl)
none_held None e = refl

-- Two runs leave the same message.
runs_same : (m a b : Message) (gs hs : List Given) → Well m → Runs m gs a → Runs m hs b → Reordered gs hs → Distinct (map (λ g. item g.touch) gs) →
    ((t : Target) → kept (λ g. brings m t g.touch) gs ≡ kept (λ g. brings m t g.touch) hs) → Same a b
runs_same m a b gs hs w r s o apart order =
    record {
      primary = settled (λ x. x.primary) primary_by (attribute to_message code_page_id) primary_item (λ g x y p. p.primary);
      rows = run_same (λ x. length x.rows) (λ g x y p. p.rows) gs m a w r ∙ sym (run_same (λ x. length x.rows) (λ g x y p. p.rows) hs m b w s);
      attachments = run_same (λ x. length x.attachments) (λ g x y p. p.attachments) gs m a w r ∙ sym (run_same (λ x. length x.attachments) (λ g x y p. p.attachments) hs m b w s);
      contents = λ t i. settled (λ x. contents_at x t i) (contents_by t i) (attribute t i) (contents_item t i) (λ g x y p. p.contents t i);
      properties = λ t k. settled (λ x. property_under x t k) (property_by t k) (property t k) (value_item t k) (λ g x y p. p.properties t k);
      order = λ t. same_order t (holding m t) refl;
    }
  where
    pairs : Pairwise OtherItem gs
    pairs = distinct_pairs (λ g. item g.touch) OtherItem (λ x y d. d) gs apart

    pairs' : Pairwise OtherItem hs
    pairs' = pairwise_reordered OtherItem (λ x y d e. d (sym e)) gs hs o pairs

    settled : {V : Type 0} (see : Message → V) (by : Touch → Option V) (σ : Item) → ((g : Touch) (v : V) → by g ≡ Some v → item g ≡ Some σ) →
        ((g : Touch) (x y : Message) → Stepped g x y → see y ≡ or_default (by g) (see x)) → see a ≡ see b
    settled see by σ own one =
        run_last see by one gs m a w r
        ∙ (last_reordered (λ g. by g.touch) gs hs o (pairwise_weaker OtherItem (OneSets (λ g. by g.touch)) (one_sets by σ own) gs pairs) (see m)
        ∙ sym (run_last see by one hs m b w s))

    run_order : (t : Target) (h : Holding) → holding m t ≡ Some h → (n : Message) (xs : List Given) → Runs m xs n → Pairwise OtherItem xs →
        keys_at n t ≡ all_less (λ g. mark t g.touch) xs (keys_at m t) ++ flat_map (λ g. added (mark t g.touch)) (kept (λ g. brings m t g.touch) xs)
    run_order t h is n xs q p =
        run_keys t xs m n w q
        ∙ (keys_after (λ g. mark t g.touch) xs (keys_at m t) (pairwise_weaker OtherItem (λ x y. Differ (mark t x.touch) (mark t y.touch)) (differ t) xs p)
        ∙ ap (λ l. all_less (λ g. mark t g.touch) xs (keys_at m t) ++ l)
        (news_kept (λ (g : Given). mark t g.touch) (λ g. brings m t g.touch) (keys_at m t) (λ g. brings_new m t h is g.touch) xs))

    nowhere : (t : Target) → holding m t ≡ None → (n : Message) (xs : List Given) → Runs m xs n → keys_at n t ≡ []
    nowhere t is n xs q = none_held (holding n t) (run_same (λ x. is_some (holding x t)) (λ g x y p. p.there t) xs m n w q ∙ ap is_some is)

    same_order : (t : Target) (h : Option Holding) → holding m t ≡ h → keys_at a t ≡ keys_at b t
    same_order t None is = nowhere t is a gs r ∙ sym (nowhere t is b hs s)
    same_order t (Some h) is =
        run_order t h is a gs r pairs
        ∙ (ap (λ l. l ++ flat_map (λ g. added (mark t g.touch)) (kept (λ g. brings m t g.touch) gs)) (less_reordered (λ (g : Given). mark t g.touch) gs hs o (keys_at m t))
        ∙ (ap (λ l. all_less (λ g. mark t g.touch) hs (keys_at m t) ++ flat_map (λ g. added (mark t g.touch)) l) (order t)
        ∙ sym (run_order t h is b hs s pairs')))

-- The draft that a run ends in.
abbrev ended : List Given → Message → State → State
ended [] n d = d
ended (g ∷ gs) n d = left_by (Ok (written n)) d

abbrev OctetsGiven : Given → Type 0
OctetsGiven g = GivenOctets (as_edit g.touch)

possible_all : (gs : List Given) → AllPossible (steps gs) → AllByRecursion OctetsGiven gs
possible_all [] p = tt
possible_all (g ∷ gs) p = (p.0, possible_all gs p.1)

ended_same : (gs hs : List Given) (n : Message) (d : State) → Reordered gs hs → ended gs n d ≡ ended hs n d
ended_same _ _ n d none = refl
ended_same _ _ n d (skip r) = refl
ended_same _ _ n d swap = refl
ended_same _ _ n d (join {xs = xs} {ys = ys} {zs = zs} r s) = ended_same xs ys n d r ∙ ended_same ys zs n d s

record Ran (gs : List Given) (m : Message) (d : State) (n : Message) : Type 0 where
  ran : Runs m gs n
  leaves_it : after (steps gs) d ≡ ended gs n d

accepted_run : (gs : List Given) (m : Message) (d : State) → Well m → form d ≡ written m → AllByRecursion OctetsGiven gs → AllAccepted (steps gs) d → (n : Message) × Ran gs m d n
accepted_run [] m d w is p a = (m, record { ran = refl; leaves_it = refl })
accepted_run (g ∷ gs) m d w is p ((f, e), rest) =
    let (k, changed, fits) = edited_ok g.memory d (as_edit g.touch) m f w is e in
    let long : length f ≡ length (written k) = ap length fits.form_is in
    let i = fits.room_enough in
    let j = fits.short in
    let v = change_well (as_edit g.touch) m k p.0 w changed (omega arith) in
    let here : left_by (edited g.memory d (as_edit g.touch)) d ≡ left_by (Ok (written k)) d = ap (λ o. left_by o d) e ∙ ap (λ x. left_by (Ok x) d) fits.form_is in
    let shape : form (left_by (edited g.memory d (as_edit g.touch)) d) ≡ written k = ap form here ∙ settled_form (length d.area) (written k) in
    let (n, r) = accepted_run gs k (left_by (edited g.memory d (as_edit g.touch)) d) v shape p.1 rest in
    (n, record { ran = (k, changed, v, r.ran); leaves_it = r.leaves_it ∙ last gs k n r.ran here (settled_length (length d.area) (written k) (omega arith)) })
  where
    last : (gs : List Given) (k n : Message) → Runs k gs n → {a : State} → a ≡ left_by (Ok (written k)) d → length (left_by (Ok (written k)) d).area ≡ length d.area → ended gs n a ≡ left_by (Ok (written n)) d
    last [] k n r e l = e ∙ ap (λ x. left_by (Ok (written x)) d) r
    last (g ∷ gs) k n r {a} e l = ap (λ room. settled room (written n)) (ap (λ (x : State). length x.area) e ∙ l)

pub edits_commute : EditsCommute
edits_commute m d is-message is gs hs p o apart order a b =
    let w = well m is-message in
    let octets = possible_all gs p in
    let (x, r) = accepted_run gs m d w is octets a in
    let (y, s) = accepted_run hs m d w is (all_reordered OctetsGiven gs hs o octets) b in
    let same = runs_same m x y gs hs w r.ran s.ran o apart order in
    let equal = same_equal x y (run_well gs m x w r.ran) (run_well hs m y w s.ran) same in
    r.leaves_it ∙ (ended_same gs hs x d o ∙ (ap (λ n. ended hs n d) equal ∙ sym s.leaves_it))
