-- The roles of frames, and the entries of each target.
use Rattle.std.proofs.Common.{◌≡◌, ℕ, Bool, true, false, not, ◌||◌, eqb, List, [], ◌∷◌, ◌++◌, map, Some, sym, refl, ap, ◌∙◌, inl, inr, arith}
use Rattle.std.specs.List.{flat_map, AllByRecursion}
use Rattle.std.proofs.lemmas.List.{append-nil}
use Rattle.std.proofs.lemmas.Bool.{cases_Bool, both_ways}
use Rattle.attribute.specs.Table.{attribute_of, attributes, find, has_id, message_attributes, attachment_attributes, rendering_attribute, rendering_id}
use Rattle.attribute.specs.declared.Attribute.{Attribute}
use Rattle.frame.specs.Stages.{Role, opens, names_page, of_message, begins_attachment, of_attachment, role}
use Rattle.stream.specs.Reading.{Nature, plain, opening, page, rows, properties, nature}
use Rattle.stream.specs.Messages.{message_part, attachment_parts}
use Rattle.message.specs.Grammar.{Laid, Right, Is, Attached, attached, Begun, InOrder}
use Rattle.message.proofs.FrameReads.{entry}

-- Where attributes may stand.
abbrev pub is_plain : Nature → Bool
is_plain plain = true
is_plain opening = false
is_plain page = false
is_plain rows = false
is_plain properties = false

abbrev is_opening : Nature → Bool
is_opening plain = false
is_opening opening = true
is_opening page = false
is_opening rows = false
is_opening properties = false

abbrev is_page : Nature → Bool
is_page plain = false
is_page opening = false
is_page page = true
is_page rows = false
is_page properties = false

abbrev pub is_begins : Role → Bool
is_begins begins_attachment = true
is_begins of_message = false
is_begins of_attachment = false
is_begins opens = false
is_begins names_page = false

abbrev pub home : Role → List Attribute
home of_message = message_attributes
home of_attachment = attachment_attributes
home begins_attachment = rendering_attribute ∷ []
home opens = []
home names_page = []

-- What the data of frames of a role are.
abbrev suits : Role → Nature → Bool
suits opens n = is_opening n
suits names_page n = is_page n
suits of_message n = true
suits begins_attachment n = is_plain n
suits of_attachment n = true

abbrev AtHome : Attribute → Type 0
AtHome a =
    (eqb a.id rendering_id ≡ is_begins (role a)) × ((not (is_plain (nature a.rule)) || has_id a.id (home (role a))) ≡ true)
    × (suits (role a) (nature a.rule) ≡ true)

homes : AllByRecursion AtHome attributes
homes = ((refl, refl, refl), ((refl, refl, refl), ((refl, refl, refl), ((refl, refl, refl), ((refl, refl, refl), ((refl, refl, refl), ((refl, refl, refl), ((refl, refl, refl), ((refl, refl, refl), ((refl, refl, refl), ((refl, refl, refl), ((refl, refl, refl), ((refl, refl, refl), ((refl, refl, refl), ((refl, refl, refl), ((refl, refl, refl), ((refl, refl, refl), ((refl, refl, refl), ((refl, refl, refl), ((refl, refl, refl), ((refl, refl, refl), ((refl, refl, refl), ((refl, refl, refl), ((refl, refl, refl), ((refl, refl, refl), ((refl, refl, refl), ((refl, refl, refl), ((refl, refl, refl), ((refl, refl, refl), ((refl, refl, refl), tt))))))))))))))))))))))))))))))

find_gives : (P : Attribute → Type 0) (ls : List Attribute) (i : ℕ) (a : Attribute) → AllByRecursion P ls → find ls i ≡ Some a → P a
find_gives P [] i a all is = absurd (let z : ◌≡◌ {A = ℕ} 0 1 = cc in omega arith)
find_gives P (d ∷ ls) i a all is =
    elim (cases_Bool (eqb d.id i)) [
      | inl t ↦ let here : Some d ≡ Some a = rw t at is in let same : d ≡ a = cc in rw (← same) all.0
      | inr f ↦ find_gives P ls i a all.1 (rw f at is)
    ]

at_home : (i : ℕ) (a : Attribute) → attribute_of i ≡ Some a → AtHome a
unfolding attribute_of
at_home i a is = find_gives AtHome attributes i a homes is

pub is_rendering : (r : Role) (f : Laid) → Right f → Is r f → eqb f.attribute.id rendering_id ≡ is_begins r
is_rendering r f right is = (at_home f.attribute.id f.attribute right.known).0 ∙ ap is_begins is

pub at_place : (r : Role) (f : Laid) → Right f → Is r f → nature f.attribute.rule ≡ plain → has_id f.attribute.id (home r) ≡ true
at_place r f right is pl =
    let h = at_home f.attribute.id f.attribute right.known in
    rw (← is) (then_has (nature f.attribute.rule) _ pl h.1)
  where
    then_has : (n : Nature) (b : Bool) → n ≡ plain → (not (is_plain n) || b) ≡ true → b ≡ true
    then_has n b is t = rw is at t

suited : (r : Role) (f : Laid) → Right f → Is r f → suits r (nature f.attribute.rule) ≡ true
suited r f right is = ap (λ q. suits q (nature f.attribute.rule)) (sym is) ∙ (at_home f.attribute.id f.attribute right.known).2

only_plain : (n : Nature) → is_plain n ≡ true → n ≡ plain
only_plain plain t = refl
only_plain opening t = absurd (both_ways false refl t)
only_plain page t = absurd (both_ways false refl t)
only_plain rows t = absurd (both_ways false refl t)
only_plain properties t = absurd (both_ways false refl t)

only_opening : (n : Nature) → is_opening n ≡ true → n ≡ opening
only_opening plain t = absurd (both_ways false refl t)
only_opening opening t = refl
only_opening page t = absurd (both_ways false refl t)
only_opening rows t = absurd (both_ways false refl t)
only_opening properties t = absurd (both_ways false refl t)

only_page : (n : Nature) → is_page n ≡ true → n ≡ page
only_page plain t = absurd (both_ways false refl t)
only_page opening t = absurd (both_ways false refl t)
only_page page t = refl
only_page rows t = absurd (both_ways false refl t)
only_page properties t = absurd (both_ways false refl t)

pub rendering_plain : (f : Laid) → Right f → Is begins_attachment f → nature f.attribute.rule ≡ plain
rendering_plain f right is = only_plain (nature f.attribute.rule) (suited begins_attachment f right is)

pub opening_nature : (f : Laid) → Right f → Is opens f → nature f.attribute.rule ≡ opening
opening_nature f right is = only_opening (nature f.attribute.rule) (suited opens f right is)

pub page_nature : (f : Laid) → Right f → Is names_page f → nature f.attribute.rule ≡ page
page_nature f right is = only_page (nature f.attribute.rule) (suited names_page f right is)

-- Where attachments begin.
part_own : (fs gs : List Laid) → AllByRecursion (λ f. eqb f.attribute.id rendering_id ≡ false) fs → message_part (map entry (fs ++ gs)) ≡ map entry fs ++ message_part (map entry gs)
unfolding message_part
part_own [] gs pl = refl
part_own (f ∷ fs) gs pl = rw (pl.0, part_own fs gs pl.1)

parts_own : (fs gs : List Laid) → AllByRecursion (λ f. eqb f.attribute.id rendering_id ≡ false) fs → attachment_parts (map entry (fs ++ gs)) ≡ attachment_parts (map entry gs)
unfolding attachment_parts
parts_own [] gs pl = refl
parts_own (f ∷ fs) gs pl = rw pl.0 (parts_own fs gs pl.1)

-- An attachment whose frames are right.
abbrev pub RightAttached : Attached → Type 0
RightAttached a = Begun a × AllByRecursion Right (attached a)

abbrev others : List Laid → Type 0
others fs = AllByRecursion (λ f. eqb f.attribute.id rendering_id ≡ false) fs

role_others : (r : Role) (fs : List Laid) → is_begins r ≡ false → AllByRecursion (Is r) fs → AllByRecursion Right fs → others fs
role_others r [] no' is right = tt
role_others r (f ∷ fs) no' is right = (is_rendering r f right.0 is.0 ∙ no', role_others r fs no' is.1 right.1)

no_part : (hs : List Attached) → AllByRecursion RightAttached hs → message_part (map entry (flat_map attached hs)) ≡ []
unfolding message_part
no_part [] w = refl
no_part (h ∷ hs) w = rw (is_rendering begins_attachment h.rendering w.0.1.0 w.0.0.0)

parts_are : (hs : List Attached) → AllByRecursion RightAttached hs → attachment_parts (map entry (flat_map attached hs)) ≡ map (λ h. map entry (attached h)) hs
unfolding attachment_parts
parts_are [] w = refl
parts_are (h ∷ hs) w =
    let pl = role_others of_attachment h.rest refl w.0.0.1 w.0.1.1 in
    rw (
      is_rendering begins_attachment h.rendering w.0.1.0 w.0.0.0,
      part_own h.rest (flat_map attached hs) pl,
      no_part hs w.1,
      append-nil (map entry h.rest),
      parts_own h.rest (flat_map attached hs) pl,
      parts_are hs w.1,
    )

pub all_parts : (P : Laid → Type 0) (fs gs : List Laid) → AllByRecursion P (fs ++ gs) → AllByRecursion P fs × AllByRecursion P gs
all_parts P [] gs w = (tt, w)
all_parts P (f ∷ fs) gs w = let (a, b) = all_parts P fs gs w.1 in ((w.0, a), b)

right_attached : (hs : List Attached) → AllByRecursion Begun hs → AllByRecursion Right (flat_map attached hs) → AllByRecursion RightAttached hs
right_attached [] b w = tt
right_attached (h ∷ hs) b w = let (a, c) = all_parts Right (attached h) (flat_map attached hs) w in ((b.0, a), right_attached hs b.1 c)

-- The frames of the message, with the two in front.
abbrev pub front : (fs : List Laid) → InOrder fs → List Laid
front fs o = o.opening ∷ (o.page ∷ o.own)

-- The entries of frames in order, target by target.
pub record ByTarget (fs : List Laid) (o : InOrder fs) : Type 0 where
  pub whole : fs ≡ front fs o ++ flat_map attached o.attachments
  pub front_right : AllByRecursion Right (front fs o)
  pub attached_right : AllByRecursion RightAttached o.attachments
  pub own_part : message_part (map entry fs) ≡ map entry (front fs o)
  pub parts : attachment_parts (map entry fs) ≡ map (λ h. map entry (attached h)) o.attachments

pub by_target : (fs : List Laid) (o : InOrder fs) → AllByRecursion Right fs → ByTarget fs o
by_target fs o all =
    let hs = o.attachments in
    let own = front fs o in
    let whole : fs ≡ own ++ flat_map attached hs = o.laid in
    let (right, late) = all_parts Right own (flat_map attached hs) (rw whole at all) in
    let begun : AllByRecursion RightAttached hs = right_attached hs o.attachments_are late in
    let pl : others own = (
      is_rendering opens o.opening right.0 o.opening_is,
      (is_rendering names_page o.page right.1.0 o.page_is, role_others of_message o.own refl o.own_are right.1.1),
    ) in
    record {
      whole = whole;
      front_right = right;
      attached_right = begun;
      own_part = ap (λ l. message_part (map entry l)) whole ∙ part_own own (flat_map attached hs) pl ∙ ap (λ l. map entry own ++ l) (no_part hs begun) ∙ append-nil (map entry own);
      parts = ap (λ l. attachment_parts (map entry l)) whole ∙ parts_own own (flat_map attached hs) pl ∙ parts_are hs begun;
    }
