-- What the earliest frames tell is what is read of them.
use Rattle.std.proofs.Common.{◌≡◌, ℕ, Bool, true, false, cond, eqb, ◌⊎◌, List, [], ◌∷◌, ◌++◌, map, Some, None, Option, sym, refl, ap, ◌∙◌, inl, inr, arith}
use mathlib.Core.Path.{fun_ext}
use Rattle.std.specs.List.{flat_map, AllByRecursion}
use Rattle.std.proofs.lemmas.Bool.{eqb-true, eqb-false, cases_Bool}
use Rattle.contents.specs.Contents.{Contents, primary_number}
use Rattle.property.specs.Lists.{Property, indexed}
use Rattle.stream.specs.Reading.{Meant, version, primary, contents, list, table, Entry, Nature, plain, opening, page, rows, properties, nature}
use Rattle.stream.specs.Messages.{Message, Holding, or_default, first, as_contents, as_list, as_table, as_primary, contents_under, properties_of, rows_of, primary_of, holding_of, message_part, attachment_parts, message_of}
use Rattle.message.specs.Grammar.{DataMean, Laid, Right, Attached, attached, InOrder, Told, WithId, OfNature, Holds, Each, Tells}
use Rattle.message.proofs.FrameReads.{entry}
use Rattle.message.proofs.Roles.{RightAttached, ByTarget, by_target, opening_nature, page_nature}

-- A frame of the kind P, which tells something, or one of another kind, which does not.
abbrev Sorted : {A : Type 0} → (Entry → Option A) → (Laid → Type 0) → (A → Meant) → Laid → Type 0
Sorted {A} t P c f = (P f × ((a : A) × (t (entry f) ≡ Some a) × (f.meant ≡ c a))) ⊎ ((P f → ⊥) × (t (entry f) ≡ None))

skip : {A : Type 0} (t : Entry → Option A) (f : Laid) (fs : List Laid) → t (entry f) ≡ None → first t (map entry (f ∷ fs)) ≡ first t (map entry fs)
unfolding first
skip t f fs e = rw e

stop : {A : Type 0} (t : Entry → Option A) (f : Laid) (fs : List Laid) (a : A) → t (entry f) ≡ Some a → first t (map entry (f ∷ fs)) ≡ Some a
unfolding first
stop t f fs a e = rw e

none_first : {A : Type 0} (t : Entry → Option A) → first t [] ≡ None
unfolding first
none_first t = refl

module _ {A : Type 0} (t : Entry → Option A) (P : Laid → Type 0) (c : A → Meant) (apart : (a b : A) → c a ≡ c b → a ≡ b) (sorted : (f : Laid) → Right f → Sorted t P c f) where
  told_first : (fs : List Laid) → AllByRecursion Right fs → Told P c fs (first t (map entry fs))
  told_first [] right = rw (none_first t) tt
  told_first (f ∷ fs) right = go (sorted f right.0) (first t (map entry fs)) refl (told_first fs right.1)
    where
      later : (P f → ⊥) → (o : Option A) → Told P c fs o → Told P c (f ∷ fs) o
      later no' (Some a) (g, e, m) = (g, inr (no', e), m)
      later no' None all = (no', all)

      go : Sorted t P c f → (o : Option A) → first t (map entry fs) ≡ o → Told P c fs o → Told P c (f ∷ fs) (first t (map entry (f ∷ fs)))
      go (inl (p, (a, ta, m))) o is ih = rw (stop t f fs a ta) (f, inl (p, refl), m)
      go (inr (no', tn)) o is ih = rw (skip t f fs tn, is) (later no' o ih)

  told_once : (fs : List Laid) (o q : Option A) → Told P c fs o → Told P c fs q → o ≡ q
  told_once [] (Some a) q (f, e, m) w = absurd e
  told_once [] None (Some b) v (f, e, m) = absurd e
  told_once [] None None v w = refl
  told_once (g ∷ fs) (Some a) (Some b) (f, inl (p, same), m) (h, inl (p', same'), m') = ap Some (apart a b (sym m ∙ ap (λ l. l.meant) (same ∙ sym same') ∙ m'))
  told_once (g ∷ fs) (Some a) (Some b) (f, inl (p, same), m) (h, inr (no', e), m') = absurd (no' p)
  told_once (g ∷ fs) (Some a) (Some b) (f, inr (no', e), m) (h, inl (p', same'), m') = absurd (no' p')
  told_once (g ∷ fs) (Some a) (Some b) (f, inr (no', e), m) (h, inr (no'', e'), m') = told_once fs (Some a) (Some b) (f, e, m) (h, e', m')
  told_once (g ∷ fs) (Some a) None (f, inl (p, same), m) w = absurd (w.0 p)
  told_once (g ∷ fs) (Some a) None (f, inr (no', e), m) w = told_once fs (Some a) None (f, e, m) w.1
  told_once (g ∷ fs) None (Some b) v (h, inl (p, same), m) = absurd (v.0 p)
  told_once (g ∷ fs) None (Some b) v (h, inr (no', e), m) = told_once fs None (Some b) v.1 (h, e, m)
  told_once (g ∷ fs) None None v w = refl

  told_is : (fs : List Laid) (o : Option A) → AllByRecursion Right fs → Told P c fs o → first t (map entry fs) ≡ o
  told_is fs o right w = told_once fs _ o (told_first fs right) w

-- Contents, lists and tables are told by frames of their kind.
contents_sorted : (i : ℕ) (f : Laid) → Right f → Sorted (contents_under i) (WithId i) contents f
contents_sorted i f right =
    elim (cases_Bool (eqb f.attribute.id i)) [
      | inl t ↦ here t (nature f.attribute.rule) refl right.admitted
      | inr n ↦ inr (λ p. eqb-false f.attribute.id i n p.0, ap (λ b. cond b (as_contents f.meant) None) n)
    ]
  where
    under : eqb f.attribute.id i ≡ true → (o : Option Contents) → as_contents f.meant ≡ o → contents_under i (entry f) ≡ o
    under t o e = ap (λ b. cond b (as_contents f.meant) None) t ∙ e

    here : eqb f.attribute.id i ≡ true → (n : Nature) → nature f.attribute.rule ≡ n → DataMean n f.attribute.rule f.bytes f.meant → Sorted (contents_under i) (WithId i) contents f
    here t plain is (c, e, same) = inl ((eqb-true f.attribute.id i t, is), (c, under t (Some c) (ap as_contents same), same))
    here t opening is (c, e, same) = inr (λ p. (let z : ◌≡◌ {A = ℕ} 0 1 = cc p.1 in omega arith), under t None (ap as_contents same))
    here t page is (c, e, same) = inr (λ p. (let z : ◌≡◌ {A = ℕ} 0 1 = cc p.1 in omega arith), under t None (ap as_contents same))
    here t rows is (c, e, same) = inr (λ p. (let z : ◌≡◌ {A = ℕ} 0 1 = cc p.1 in omega arith), under t None (ap as_contents same))
    here t properties is (c, e, same) = inr (λ p. (let z : ◌≡◌ {A = ℕ} 0 1 = cc p.1 in omega arith), under t None (ap as_contents same))

abbrev pub lists : Entry → Option (List Property)
lists e = as_list e.meant

abbrev pub tables : Entry → Option (List (List Property))
tables e = as_table e.meant

abbrev pub primaries : Entry → Option ℕ
primaries e = as_primary e.meant

lists_sorted : (f : Laid) → Right f → Sorted lists (OfNature properties) list f
lists_sorted f right = go (nature f.attribute.rule) refl right.admitted
  where
    go : (n : Nature) → nature f.attribute.rule ≡ n → DataMean n f.attribute.rule f.bytes f.meant → Sorted lists (OfNature properties) list f
    go plain is (c, e, same) = inr (λ p. (let z : ◌≡◌ {A = ℕ} 0 1 = cc in omega arith), ap as_list same)
    go opening is (c, e, same) = inr (λ p. (let z : ◌≡◌ {A = ℕ} 0 1 = cc in omega arith), ap as_list same)
    go page is (c, e, same) = inr (λ p. (let z : ◌≡◌ {A = ℕ} 0 1 = cc in omega arith), ap as_list same)
    go rows is (c, e, same) = inr (λ p. (let z : ◌≡◌ {A = ℕ} 0 1 = cc in omega arith), ap as_list same)
    go properties is (c, e, same) = inl (is, (c, ap as_list same, same))

tables_sorted : (f : Laid) → Right f → Sorted tables (OfNature rows) table f
tables_sorted f right = go (nature f.attribute.rule) refl right.admitted
  where
    go : (n : Nature) → nature f.attribute.rule ≡ n → DataMean n f.attribute.rule f.bytes f.meant → Sorted tables (OfNature rows) table f
    go plain is (c, e, same) = inr (λ p. (let z : ◌≡◌ {A = ℕ} 0 1 = cc in omega arith), ap as_table same)
    go opening is (c, e, same) = inr (λ p. (let z : ◌≡◌ {A = ℕ} 0 1 = cc in omega arith), ap as_table same)
    go page is (c, e, same) = inr (λ p. (let z : ◌≡◌ {A = ℕ} 0 1 = cc in omega arith), ap as_table same)
    go rows is (c, e, same) = inl (is, (c, ap as_table same, same))
    go properties is (c, e, same) = inr (λ p. (let z : ◌≡◌ {A = ℕ} 0 1 = cc in omega arith), ap as_table same)

contents_apart : (a b : Contents) → contents a ≡ contents b → a ≡ b
contents_apart a b e = cc

list_apart : (a b : List Property) → list a ≡ list b → a ≡ b
list_apart a b e = cc

table_apart : (a b : List (List Property)) → table a ≡ table b → a ≡ b
table_apart a b e = cc

-- What frames hold.
holds_of : (fs : List Laid) (h : Holding) → AllByRecursion Right fs → ((i : ℕ) → first (contents_under i) (map entry fs) ≡ h.attributes i) → indexed (or_default (first lists (map entry fs)) []) ≡ h.properties → Holds fs h
holds_of fs h right at-id at-list = record {
  by_id = λ i. rw (at-id i) at (told_first (contents_under i) (WithId i) contents contents_apart (contents_sorted i) fs right);
  listed = first lists (map entry fs);
  listed_told = told_first lists (OfNature properties) list list_apart lists_sorted fs right;
  properties_are = sym at-list;
}

holds_ids : (fs : List Laid) (h : Holding) → AllByRecursion Right fs → Holds fs h → (i : ℕ) → first (contents_under i) (map entry fs) ≡ h.attributes i
holds_ids fs h right w i = told_is (contents_under i) (WithId i) contents contents_apart (contents_sorted i) fs (h.attributes i) right (w.by_id i)

holds_list : (fs : List Laid) (h : Holding) → AllByRecursion Right fs → Holds fs h → indexed (or_default (first lists (map entry fs)) []) ≡ h.properties
holds_list fs h right w = ap (λ o. indexed (or_default o [])) (told_is lists (OfNature properties) list list_apart lists_sorted fs w.listed right w.listed_told) ∙ sym w.properties_are

held : (fs : List Laid) (h : Holding) → AllByRecursion Right fs → holding_of (map entry fs) ≡ h → Holds fs h
unfolding properties_of
held fs h right e = holds_of fs h right (λ i. ap (λ g. g.attributes i) e) (ap (λ g. g.properties) e)

holding_told : (es : List Entry) (h : Holding) → ((i : ℕ) → first (contents_under i) es ≡ h.attributes i) → indexed (or_default (first lists es) []) ≡ h.properties → holding_of es ≡ h
unfolding properties_of
holding_told es h at-id at-list = ap (λ g. record { attributes = g; properties = properties_of es }) (fun_ext at-id) ∙ ap (λ l. record { attributes = h.attributes; properties = l }) at-list

each_held : (ls : List Attached) (hs : List Holding) → AllByRecursion RightAttached ls → map holding_of (map (λ a. map entry (attached a)) ls) ≡ hs → Each (λ a h. Holds (attached a) h) ls hs
each_held [] [] right e = tt
each_held [] (h ∷ hs) right e = absurd (let z : ◌≡◌ {A = ℕ} 0 1 = cc in omega arith)
each_held (a ∷ ls) [] right e = absurd (let z : ◌≡◌ {A = ℕ} 0 1 = cc in omega arith)
each_held (a ∷ ls) (h ∷ hs) right e =
    let one : holding_of (map entry (attached a)) ≡ h = cc in
    let more : map holding_of (map (λ a. map entry (attached a)) ls) ≡ hs = cc in
    (held (attached a) h right.0.1 one, each_held ls hs right.1 more)

each_told : (ls : List Attached) (hs : List Holding) → AllByRecursion RightAttached ls → Each (λ a h. Holds (attached a) h) ls hs → map holding_of (map (λ a. map entry (attached a)) ls) ≡ hs
each_told [] [] right w = refl
each_told [] (h ∷ hs) right w = absurd w
each_told (a ∷ ls) [] right w = absurd w
each_told (a ∷ ls) (h ∷ hs) right w =
    let one : holding_of (map entry (attached a)) ≡ h = holding_told (map entry (attached a)) h (holds_ids (attached a) h right.0.1 w.0) (holds_list (attached a) h right.0.1 w.0) in
    let more : map holding_of (map (λ a. map entry (attached a)) ls) ≡ hs = each_told ls hs right.1 w.1 in
    cc

-- The two frames in front tell the primary number, and no more.
version_told : (f : Laid) → Right f → nature f.attribute.rule ≡ opening → f.meant ≡ version
version_told f right n = go (nature f.attribute.rule) n right.admitted
  where
    go : (n : Nature) → n ≡ opening → DataMean n f.attribute.rule f.bytes f.meant → f.meant ≡ version
    go opening e (c, is, same) = same
    go plain e w = absurd (let z : ◌≡◌ {A = ℕ} 0 1 = cc in omega arith)
    go page e w = absurd (let z : ◌≡◌ {A = ℕ} 0 1 = cc in omega arith)
    go rows e w = absurd (let z : ◌≡◌ {A = ℕ} 0 1 = cc in omega arith)
    go properties e w = absurd (let z : ◌≡◌ {A = ℕ} 0 1 = cc in omega arith)

page_told : (f : Laid) → Right f → nature f.attribute.rule ≡ page → (n : ℕ) × (f.meant ≡ primary n)
page_told f right n = go (nature f.attribute.rule) n right.admitted
  where
    go : (n : Nature) → n ≡ page → DataMean n f.attribute.rule f.bytes f.meant → (n : ℕ) × (f.meant ≡ primary n)
    go page e (c, is, same) = (primary_number c, same)
    go plain e w = absurd (let z : ◌≡◌ {A = ℕ} 0 1 = cc in omega arith)
    go opening e w = absurd (let z : ◌≡◌ {A = ℕ} 0 1 = cc in omega arith)
    go rows e w = absurd (let z : ◌≡◌ {A = ℕ} 0 1 = cc in omega arith)
    go properties e w = absurd (let z : ◌≡◌ {A = ℕ} 0 1 = cc in omega arith)

pub same_message : {p q : ℕ} {h k : Holding} {r s : List (List Property)} {x y : List Holding} → p ≡ q → h ≡ k → r ≡ s → x ≡ y →
    ◌≡◌ {A = Message} (record { primary = p; own = h; rows = r; attachments = x }) (record { primary = q; own = k; rows = s; attachments = y })
same_message a b c d = cc

module _ (fs : List Laid) (o : InOrder fs) (right : AllByRecursion Right fs) where
  targets : ByTarget fs o
  targets = by_target fs o right

  opening_is : o.opening.meant ≡ version
  opening_is = version_told o.opening targets.front_right.0 (opening_nature o.opening targets.front_right.0 o.opening_is)

  page_is : (n : ℕ) × (o.page.meant ≡ primary n)
  page_is = page_told o.page targets.front_right.1.0 (page_nature o.page targets.front_right.1.0 o.page_is)

  own_right : AllByRecursion Right o.own
  own_right = targets.front_right.1.1

  behind_front : {A : Type 0} (t : Entry → Option A) → ((e : Entry) → e.meant ≡ version → t e ≡ None) → ((e : Entry) (n : ℕ) → e.meant ≡ primary n → t e ≡ None) →
      first t (message_part (map entry fs)) ≡ first t (map entry o.own)
  behind_front t a b =
      ap (first t) targets.own_part
      ∙ skip t o.opening (o.page ∷ o.own) (a (entry o.opening) opening_is)
      ∙ skip t o.page o.own (b (entry o.page) page_is.0 page_is.1)

  under_none : (i : ℕ) (e : Entry) → as_contents e.meant ≡ None → contents_under i e ≡ None
  under_none i e n = go (eqb e.id i)
    where
      go : (b : Bool) → cond b (as_contents e.meant) None ≡ None
      go true = n
      go false = refl

  ids_front : (i : ℕ) → first (contents_under i) (message_part (map entry fs)) ≡ first (contents_under i) (map entry o.own)
  ids_front i = behind_front (contents_under i) (λ e q. under_none i e (ap as_contents q)) (λ e n q. under_none i e (ap as_contents q))

  lists_front : first lists (message_part (map entry fs)) ≡ first lists (map entry o.own)
  lists_front = behind_front lists (λ e q. ap as_list q) (λ e n q. ap as_list q)

  tables_front : first tables (message_part (map entry fs)) ≡ first tables (map entry o.own)
  tables_front = behind_front tables (λ e q. ap as_table q) (λ e n q. ap as_table q)

  primary_told : (n : ℕ) → o.page.meant ≡ primary n → primary_of (map entry fs) ≡ n
  unfolding primary_of
  primary_told n e =
      let rest = o.own ++ flat_map attached o.attachments in
      ap (λ l. or_default (first primaries (map entry l)) 0) targets.whole
      ∙ ap (λ q. or_default q 0) (skip primaries o.opening (o.page ∷ rest) (ap as_primary opening_is) ∙ stop primaries o.page rest n (ap as_primary e))

  rows_told : (q : Option (List (List Property))) → first tables (map entry o.own) ≡ q → rows_of (message_part (map entry fs)) ≡ map indexed (or_default q [])
  unfolding rows_of
  rows_told q e = ap (λ p. map indexed (or_default p [])) (tables_front ∙ e)

  own_told : (h : Holding) → holding_of (message_part (map entry fs)) ≡ h → Holds o.own h
  unfolding properties_of
  own_told h e =
      holds_of o.own h own_right (λ i. sym (ids_front i) ∙ ap (λ g. g.attributes i) e)
      (ap (λ p. indexed (or_default p [])) (sym lists_front) ∙ ap (λ g. g.properties) e)

  pub tells : Tells fs o (message_of (map entry fs))
  tells = record {
    primary_is = page_is.1 ∙ ap primary (sym (primary_told page_is.0 page_is.1));
    own_holds = own_told (holding_of (message_part (map entry fs))) refl;
    rowed = first tables (map entry o.own);
    rowed_told = told_first tables (OfNature rows) table table_apart tables_sorted o.own own_right;
    rows_are = rows_told _ refl;
    attachments_hold = each_held o.attachments _ targets.attached_right (ap (map holding_of) (sym targets.parts));
  }

  pub tells_back : (m : Message) → Tells fs o m → message_of (map entry fs) ≡ m
  tells_back m w =
      let a : primary_of (map entry fs) ≡ m.primary = primary_told m.primary w.primary_is in
      let b : holding_of (message_part (map entry fs)) ≡ m.own =
      holding_told (message_part (map entry fs)) m.own (λ i. ids_front i ∙ holds_ids o.own m.own own_right w.own_holds i)
      (ap (λ p. indexed (or_default p [])) lists_front ∙ holds_list o.own m.own own_right w.own_holds) in
      let c : rows_of (message_part (map entry fs)) ≡ m.rows =
      rows_told w.rowed (told_is tables (OfNature rows) table table_apart tables_sorted o.own w.rowed own_right w.rowed_told) ∙ sym w.rows_are in
      let d : map holding_of (attachment_parts (map entry fs)) ≡ m.attachments = ap (map holding_of) targets.parts ∙ each_told o.attachments m.attachments targets.attached_right w.attachments_hold in
      same_message a b c d
