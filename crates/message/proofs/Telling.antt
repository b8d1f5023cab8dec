-- What the entries of a well-formed message tell is the message.
use Rattle.std.proofs.Common.{◌≡◌, ℕ, Bool, true, false, cond, ◌||◌, eqb, ◌⊎◌, List, [], ◌∷◌, ◌++◌, map, Some, None, Option, sym, refl, ap, ◌∙◌, inl, inr}
use mathlib.Core.Path.{fun_ext}
use Rattle.std.specs.List.{flat_map, AllByRecursion}
use Rattle.std.proofs.lemmas.List.{append-nil}
use Rattle.std.proofs.lemmas.Bool.{eqb-true, cases_Bool}
use Rattle.std.proofs.ByRecursion.{All-append}
use Rattle.attribute.specs.Table.{has_id, message_attributes, attachment_attributes, rendering_attribute, rendering_id, message_properties_id, attachment_properties_id, recipients_id, code_page_id, version_id}
use Rattle.attribute.specs.declared.Attribute.{Attribute}
use Rattle.frame.specs.Stages.{Role, of_message, of_attachment}
use Rattle.contents.specs.Contents.{Contents}
use Rattle.property.specs.Lists.{Property, indexed}
use Rattle.stream.specs.Reading.{version, primary, contents, Entry}
use Rattle.stream.specs.Messages.{Message, Holding, or_else, or_default, first, contents_under, properties_of, rows_of, primary_of, holding_of, message_part, attachment_parts, message_of}
use Rattle.stream.specs.Writing.{found, attribute_entries, list_entries, table_entries, message_entries, attachment_entries, entries_in}
use Rattle.message.proofs.Indexing.{ApartKeys, WellList, indexed_same}
use Rattle.message.proofs.Earliest.{lists, tables, same_message}
use Rattle.message.proofs.Laying.{Placed, message_places, attachment_places, Known, WellAttachment, Well, one}

-- What the entries tell.
first_append : {A : Type 0} (g : Entry → Option A) (es ds : List Entry) → first g (es ++ ds) ≡ or_else (first g es) (first g ds)
unfolding first
first_append g [] ds = refl
first_append g (f ∷ es) ds = rw (first_append g es ds) (or_assoc (g f) (first g es) (first g ds))
  where
    or_assoc : {A : Type 0} (a b c : Option A) → or_else a (or_else b c) ≡ or_else (or_else a b) c
    or_assoc (Some a) b c = refl
    or_assoc None b c = refl

mute_append : {A : Type 0} (g : Entry → Option A) (es ds : List Entry) → first g es ≡ None → first g (es ++ ds) ≡ first g ds
mute_append g es ds e = rw (first_append g es ds, e)

mute_after : {A : Type 0} (g : Entry → Option A) (es ds : List Entry) → first g ds ≡ None → first g (es ++ ds) ≡ first g es
mute_after g es ds e = rw (first_append g es ds, e) (or_none (first g es))
  where
    or_none : {A : Type 0} (o : Option A) → or_else o None ≡ o
    or_none (Some a) = refl
    or_none None = refl

mute_attributes : {A : Type 0} (g : Entry → Option A) → ((i : ℕ) (c : Contents) → g (one i (contents c)) ≡ None) → (ls : List Attribute) (held : ℕ → Option Contents) → first g (attribute_entries ls held) ≡ None
unfolding attribute_entries first
mute_attributes g mute [] held = refl
mute_attributes g mute (e ∷ ls) held = mute_append g _ _ (at_found (held e.id)) ∙ mute_attributes g mute ls held
  where
    at_found : (o : Option Contents) → first g (found e.id o) ≡ None
    at_found None = refl
    at_found (Some c) = rw (mute e.id c)

found_tells : (i j : ℕ) (o : Option Contents) → first (contents_under j) (found i o) ≡ cond (eqb i j) o None
unfolding first
found_tells i j None = go (eqb i j)
  where
    go : (b : Bool) → ◌≡◌ {A = Option Contents} None (cond b None None)
    go true = refl
    go false = refl
found_tells i j (Some c) = go (eqb i j)
  where
    go : (b : Bool) → or_else (cond b (Some c) None) None ≡ cond b (Some c) None
    go true = refl
    go false = refl

mute_none : (i : ℕ) → first (contents_under i) [] ≡ None
unfolding first
mute_none i = refl

attributes_tell : (ls : List Attribute) (held : ℕ → Option Contents) (i : ℕ) → first (contents_under i) (attribute_entries ls held) ≡ cond (has_id i ls) (held i) None
unfolding attribute_entries
attributes_tell [] held i = mute_none i
attributes_tell (e ∷ ls) held i =
    first_append (contents_under i) (found e.id (held e.id)) (attribute_entries ls held)
    ∙ rw (found_tells e.id i (held e.id), attributes_tell ls held i) (here (cases_Bool (eqb e.id i)))
  where
    here : (eqb e.id i ≡ true) ⊎ (eqb e.id i ≡ false) → or_else (cond (eqb e.id i) (held e.id) None) (cond (has_id i ls) (held i) None) ≡ cond (eqb e.id i || has_id i ls) (held i) None
    here (inl t) = rw (t, eqb-true e.id i t) (either (held i) (has_id i ls))
      where
        either : (o : Option Contents) (b : Bool) → or_else o (cond b o None) ≡ o
        either (Some c) b = refl
        either None true = refl
        either None false = refl
    here (inr f) = rw f

known_tells : (ls : List Attribute) (held : ℕ → Option Contents) → Known ls held → (i : ℕ) → cond (has_id i ls) (held i) None ≡ held i
known_tells ls held known i = go (held i) refl
  where
    go : (o : Option Contents) → held i ≡ o → cond (has_id i ls) o None ≡ o
    go (Some c) is = rw (known i c is).2
    go None is = empty (has_id i ls)
      where
        empty : (b : Bool) → ◌≡◌ {A = Option Contents} (cond b None None) None
        empty true = refl
        empty false = refl

list_mute : (i j : ℕ) (ps : List Property) → first (contents_under i) (list_entries j ps) ≡ None
unfolding first
list_mute i j [] = refl
list_mute i j (p ∷ ps) = go (eqb j i)
  where
    go : (b : Bool) → ◌≡◌ {A = Option Contents} (or_else (cond b None None) None) None
    go true = refl
    go false = refl

list_tells : (j : ℕ) (ps : List Property) → or_default (first lists (list_entries j ps)) [] ≡ ps
unfolding first
list_tells j [] = refl
list_tells j (p ∷ ps) = refl

-- What entries in this order hold.
module _ (pre mid : List Entry) (ls : List Attribute) (held : ℕ → Option Contents) (j : ℕ) (ps : List Property) where
  holding_is : ((i : ℕ) → first (contents_under i) pre ≡ None) → first lists pre ≡ None → ((i : ℕ) → first (contents_under i) mid ≡ None) → first lists mid ≡ None →
      Known ls held → ApartKeys ps → holding_of (pre ++ (attribute_entries ls held ++ (mid ++ list_entries j ps))) ≡ record { attributes = held; properties = ps }
  unfolding properties_of
  holding_is a b c d known apart =
      let es = pre ++ (attribute_entries ls held ++ (mid ++ list_entries j ps)) in
      let at : (i : ℕ) → first (contents_under i) es ≡ held i = λ i.
      mute_append (contents_under i) pre _ (a i)
      ∙ mute_after (contents_under i) (attribute_entries ls held) _ (mute_append (contents_under i) mid _ (c i) ∙ list_mute i j ps)
      ∙ attributes_tell ls held i ∙ known_tells ls held known i in
      let told : first lists es ≡ first lists (list_entries j ps) =
      mute_append lists pre _ b ∙ mute_append lists (attribute_entries ls held) _ (mute_attributes lists (λ i c. refl) ls held) ∙ mute_append lists mid _ d in
      let props : properties_of es ≡ ps = ap (λ o. indexed (or_default o [])) told ∙ ap indexed (list_tells j ps) ∙ indexed_same ps apart in
      ap (λ f. record { attributes = f; properties = properties_of es }) (fun_ext at) ∙ ap (λ l. record { attributes = held; properties = l }) props

-- Where attachments begin.
abbrev Plain : List Entry → Type 0
Plain es = AllByRecursion (λ f. eqb f.id rendering_id ≡ false) es

part_append : (es ds : List Entry) → Plain es → message_part (es ++ ds) ≡ es ++ message_part ds
unfolding message_part
part_append [] ds pl = refl
part_append (f ∷ es) ds pl = rw (pl.0, part_append es ds pl.1)

parts_append : (es ds : List Entry) → Plain es → attachment_parts (es ++ ds) ≡ attachment_parts ds
unfolding attachment_parts
parts_append [] ds pl = refl
parts_append (f ∷ es) ds pl = rw pl.0 (parts_append es ds pl.1)

plain_attributes : (r : Role) (ls : List Attribute) (held : ℕ → Option Contents) → AllByRecursion (Placed r) ls → Plain (attribute_entries ls held)
unfolding attribute_entries
plain_attributes r [] held pl = tt
plain_attributes r (e ∷ ls) held pl = All-append _ (found e.id (held e.id)) _ (at_found (held e.id) pl.0.4) (plain_attributes r ls held pl.1)
  where
    at_found : (o : Option Contents) → eqb e.id rendering_id ≡ false → Plain (found e.id o)
    at_found None is = tt
    at_found (Some c) is = (is, tt)

plain_list : (j : ℕ) (ps : List Property) → eqb j rendering_id ≡ false → Plain (list_entries j ps)
plain_list j [] e = tt
plain_list j (p ∷ ps) e = (e, tt)

plain_table : (rs : List (List Property)) → Plain (table_entries rs)
plain_table [] = tt
plain_table (r ∷ rs) = (refl, tt)

-- The entries of an attachment behind its rendering.
abbrev behind : Holding → List Entry
behind h = attribute_entries attachment_attributes h.attributes ++ list_entries attachment_properties_id h.properties

plain_behind : (h : Holding) → Plain (behind h)
plain_behind h = All-append _ (attribute_entries attachment_attributes h.attributes) _ (plain_attributes of_attachment attachment_attributes h.attributes attachment_places) (plain_list attachment_properties_id h.properties refl)

split_attachment : (h : Holding) (c : Contents) (rest : List Entry) → h.attributes rendering_id ≡ Some c → attachment_entries h ++ rest ≡ one rendering_id (contents c) ∷ (behind h ++ rest)
unfolding attribute_entries
split_attachment h c rest is = rw is

whole_attachment : (h : Holding) (c : Contents) → h.attributes rendering_id ≡ Some c → one rendering_id (contents c) ∷ behind h ≡ attachment_entries h
whole_attachment h c is = ap (λ l. one rendering_id (contents c) ∷ l) (sym (append-nil (behind h))) ∙ sym (split_attachment h c [] is) ∙ append-nil (attachment_entries h)

no_part : (hs : List Holding) → AllByRecursion WellAttachment hs → message_part (flat_map attachment_entries hs) ≡ []
unfolding message_part
no_part [] w = refl
no_part (h ∷ hs) w = let (c, is) = w.0.rendering in rw (split_attachment h c (flat_map attachment_entries hs) is)

parts_are : (hs : List Holding) → AllByRecursion WellAttachment hs → attachment_parts (flat_map attachment_entries hs) ≡ map attachment_entries hs
unfolding attachment_parts
parts_are [] w = refl
parts_are (h ∷ hs) w =
    let (c, is) = w.0.rendering in
    let rest = flat_map attachment_entries hs in
    rw (
      split_attachment h c rest is,
      part_append (behind h) rest (plain_behind h),
      no_part hs w.1,
      append-nil (behind h),
      whole_attachment h c is,
      parts_append (behind h) rest (plain_behind h),
      parts_are hs w.1,
    )

none_lists : first lists [] ≡ None
unfolding first
none_lists = refl

holdings_are : (hs : List Holding) → AllByRecursion WellAttachment hs → map holding_of (map attachment_entries hs) ≡ hs
holdings_are [] w = refl
holdings_are (h ∷ hs) w =
    let one' : holding_of (attachment_entries h) ≡ h =
    holding_is [] [] (rendering_attribute ∷ attachment_attributes) h.attributes attachment_properties_id h.properties mute_none none_lists mute_none none_lists w.0.holds.known w.0.holds.list_well.1 in
    rw (one', holdings_are hs w.1)

-- The two entries in front.
abbrev front : Message → List Entry
front m = one version_id version ∷ (one code_page_id (primary m.primary) ∷ [])

front_mute : (m : Message) (i : ℕ) → first (contents_under i) (front m) ≡ None
unfolding first
front_mute m i = go (eqb version_id i) (eqb code_page_id i)
  where
    go : (a b : Bool) → ◌≡◌ {A = Option Contents} (or_else (cond a None None) (or_else (cond b None None) None)) None
    go true true = refl
    go true false = refl
    go false true = refl
    go false false = refl

front_lists : (m : Message) → first lists (front m) ≡ None
unfolding first
front_lists m = refl

front_tables : (m : Message) → first tables (front m) ≡ None
unfolding first
front_tables m = refl

table_mute : (i : ℕ) (rs : List (List Property)) → first (contents_under i) (table_entries rs) ≡ None
unfolding first
table_mute i [] = refl
table_mute i (r ∷ rs) = go (eqb recipients_id i)
  where
    go : (b : Bool) → ◌≡◌ {A = Option Contents} (or_else (cond b None None) None) None
    go true = refl
    go false = refl

table_lists : (rs : List (List Property)) → first lists (table_entries rs) ≡ None
unfolding first
table_lists [] = refl
table_lists (r ∷ rs) = refl

list_tables : (j : ℕ) (ps : List Property) → first tables (list_entries j ps) ≡ None
unfolding first
list_tables j [] = refl
list_tables j (p ∷ ps) = refl

table_tells : (rs : List (List Property)) → or_default (first tables (table_entries rs)) [] ≡ rs
unfolding first
table_tells [] = refl
table_tells (r ∷ rs) = refl

rows_same : (rs : List (List Property)) → AllByRecursion WellList rs → map indexed rs ≡ rs
rows_same [] w = refl
rows_same (r ∷ rs) w = rw (indexed_same r w.0.1, rows_same rs w.1)

primary_told : (m : Message) → primary_of (entries_in m) ≡ m.primary
unfolding primary_of first entries_in
primary_told m = refl

plain_front : (m : Message) → Plain (front m ++ message_entries m)
plain_front m =
    All-append _ (front m) _ (refl, (refl, tt))
    (All-append _ (attribute_entries message_attributes m.own.attributes) _ (plain_attributes of_message message_attributes m.own.attributes message_places)
    (All-append _ (table_entries m.rows) _ (plain_table m.rows) (plain_list message_properties_id m.own.properties refl)))

in_order : (m : Message) → entries_in m ≡ (front m ++ message_entries m) ++ flat_map attachment_entries m.attachments
unfolding entries_in
in_order m = refl

own_part : (m : Message) → Well m → message_part (entries_in m) ≡ front m ++ message_entries m
own_part m w = rw (in_order m, part_append (front m ++ message_entries m) (flat_map attachment_entries m.attachments) (plain_front m), no_part m.attachments w.attachments_well) (append-nil (front m ++ message_entries m))

own_is : (m : Message) → Well m → holding_of (front m ++ message_entries m) ≡ m.own
own_is m w =
    holding_is (front m) (table_entries m.rows) message_attributes m.own.attributes message_properties_id m.own.properties
    (front_mute m) (front_lists m) (λ i. table_mute i m.rows) (table_lists m.rows) w.own_well.known w.own_well.list_well.1

rows_are : (m : Message) → Well m → rows_of (front m ++ message_entries m) ≡ m.rows
unfolding rows_of
rows_are m w =
    let told : first tables (front m ++ message_entries m) ≡ first tables (table_entries m.rows) =
    mute_append tables (front m) (message_entries m) (front_tables m)
    ∙ mute_append tables (attribute_entries message_attributes m.own.attributes) _ (mute_attributes tables (λ i c. refl) message_attributes m.own.attributes)
    ∙ mute_after tables (table_entries m.rows) _ (list_tables message_properties_id m.own.properties) in
    ap (λ o. map indexed (or_default o [])) told ∙ ap (map indexed) (table_tells m.rows) ∙ rows_same m.rows w.rows_well

attachments_are : (m : Message) → Well m → map holding_of (attachment_parts (entries_in m)) ≡ m.attachments
attachments_are m w =
    rw (in_order m, parts_append (front m ++ message_entries m) (flat_map attachment_entries m.attachments) (plain_front m), parts_are m.attachments w.attachments_well)
    (holdings_are m.attachments w.attachments_well)

pub message_back : (m : Message) → Well m → message_of (entries_in m) ≡ m
message_back m w =
    let es = entries_in m in
    let a : holding_of (message_part es) ≡ m.own = ap holding_of (own_part m w) ∙ own_is m w in
    let b : rows_of (message_part es) ≡ m.rows = ap rows_of (own_part m w) ∙ rows_are m w in
    same_message (primary_told m) a b (attachments_are m w)
