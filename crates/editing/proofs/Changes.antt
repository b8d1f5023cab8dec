-- Edits keep messages shaped.
use Rattle.std.proofs.Common.{◌≡◌, ℕ, ◌≤◌, Bool, true, false, not, ◌&&◌, ◌||◌, eqb, List, [], ◌∷◌, ◌++◌, length, Some, None, Ok, Option, sym, refl, ap, ◌∙◌, inl, inr, arith}
use Rattle.std.specs.List.{AllByRecursion}
use Rattle.std.proofs.lemmas.List.{length-append}
use Rattle.std.proofs.ByRecursion.{All-push}
use Rattle.std.proofs.lemmas.Bool.{and_parts, eqb-true, eq-eqb, and_from, cases_Bool, both_ways, ltb-true}
use Rattle.source.specs.Bytes.{Octets}
use Rattle.source.specs.Content.{source_limit}
use Rattle.source.proofs.Outcomes.{ok_same}
use Rattle.attribute.specs.Table.{attribute, attribute_of, attributes, has_id, message_attributes, attachment_attributes, rendering_attribute, rendering_id}
use Rattle.attribute.specs.declared.Attribute.{Attribute}
use Rattle.attribute.specs.declared.Rule.{Rule}
use Rattle.attribute.specs.declared.Rule.TheVariants.{Text, Class, Date, Digits, Status, Priority, YesNo, Raw, Rendering, Version, CodePage, Recipients, Properties}
use Rattle.frame.specs.Stages.{attachment_limit}
use Rattle.contents.specs.Contents.{Contents, means, normal}
use Rattle.contents.proofs.Normal.{normal_means}
use Rattle.property.specs.Lists.{Property, row_limit}
use Rattle.stream.specs.Reading.{nature}
use Rattle.stream.specs.Messages.{Message, Holding}
use Rattle.stream.specs.Writing.{written}
use Rattle.message.specs.declared.Target.{Target}
use Rattle.message.specs.declared.Target.TheVariants.{Message as to_message, Row as to_row, Attachment as to_attachment}
use Rattle.message.specs.Sameness.{nth, row_holding, holding}
use Rattle.message.proofs.Outcomes.{bind_ok, need_ok}
use Rattle.message.proofs.FrameReads.{id_of}
use Rattle.message.proofs.NormalData.{normal_octets, page_small}
use Rattle.message.proofs.Rewrites.{list_from}
use Rattle.message.proofs.Indexing.{WellList}
use Rattle.message.proofs.Laying.{Well}
use Rattle.message.proofs.Forms.{well, form_read, form_octets}
use Rattle.message.proofs.Roles.{is_plain}
use Rattle.editing.specs.Slots.{without_id, put_contents, has_key, put_in, without_key, without_nth}
use Rattle.editing.specs.Targets.{with_holding, with_attributes, with_properties, target_level, use_of, may_put, may_drop}
use Rattle.editing.specs.Edits.{Edit, put_attribute, put_property, drop_attribute, drop_property, add_row, add_attachment, remove_row, remove_attachment, given_key, bare_attachment, put_meaning, change}
use Rattle.editing.specs.Promise.{GivenOctets, ChangesKeep}
use Rattle.editing.proofs.Places.{nth_all, change_all, without_all, change_length, without_length}
use Rattle.editing.proofs.Listed.{put_well, drop_well}
use Rattle.editing.proofs.Givens.{given_then, contents_ok, property_ok, attribute_ok, passes, attribute_passes}
use Rattle.editing.proofs.Shapes.{Admitted, ShapedHolding, ShapedAttachment, Shaped, well_shaped, shaped_well}

-- Attributes put and dropped: contents that were given are told again by their normal bytes.
abbrev Again : Rule → Contents → Type 0
Again r c = (means r (normal c) ≡ Some c) × Octets (normal c)

again : (r : Rule) (ds : List ℕ) (c : Contents) → Octets ds → means r ds ≡ Some c → Again r c
again r ds c o e = ((normal_means r ds c o e).0, normal_octets r ds c o e)

put_admitted : (ls : List Attribute) (was : ℕ → Option Contents) (i : ℕ) (a : Attribute) (c : Contents) → Admitted ls was → attribute_of i ≡ Some a → has_id i ls ≡ true →
    Again a.rule c → Admitted ls (put_contents was i c)
put_admitted ls was i a c adm is has m j d ej =
    elim (cases_Bool (eqb i j)) [
      | inl t ↦
          let here : Some c ≡ Some d = rw t at ej in
          let same : c ≡ d = cc in
          let id : i ≡ j = eqb-true i j t in
          let m' : Again a.rule d = rw same at m in
          (a, ap attribute_of (sym id) ∙ is, ap (λ k. has_id k ls) (sym id) ∙ has, m'.0, m'.1)
      | inr f ↦ adm j d (rw f at ej)
    ]

drop_admitted : (ls : List Attribute) (was : ℕ → Option Contents) (i : ℕ) → Admitted ls was → Admitted ls (without_id i was)
drop_admitted ls was i a j d ej =
    elim (cases_Bool (eqb i j)) [
      | inl t ↦ absurd (let here : None ≡ Some d = rw t at ej in let z : ◌≡◌ {A = ℕ} 0 1 = cc in omega arith)
      | inr f ↦ a j d (rw f at ej)
    ]

put_rendering : (was : ℕ → Option Contents) (i : ℕ) (d : Contents) → (c : Contents) × (was rendering_id ≡ Some c) → (c : Contents) × (put_contents was i d rendering_id ≡ Some c)
put_rendering was i d (c, is) =
    elim (cases_Bool (eqb i rendering_id)) [
      | inl t ↦ (d, rw t)
      | inr f ↦ (c, rw f is)
    ]

-- Where entries may be put, and that a rendering is not dropped.
abbrev of_attachments : List Attribute
of_attachments = rendering_attribute ∷ attachment_attributes

-- An attribute of a level that holds plain contents stands in the level's table, and one that may be dropped is no rendering.
abbrev stands : Attribute → Bool
stands a =
    (not (eqb a.level 1 && is_plain (nature a.rule)) || has_id a.id message_attributes)
    && (not (eqb a.level 2 && is_plain (nature a.rule)) || has_id a.id of_attachments)
    && (not (may_drop (use_of a.rule)) || not (eqb a.id rendering_id))

all_stand : passes stands attributes ≡ true
all_stand = refl

record Placed (a : Attribute) : Type 0 where
  in_message : (not (eqb a.level 1 && is_plain (nature a.rule)) || has_id a.id message_attributes) ≡ true
  in_attachment : (not (eqb a.level 2 && is_plain (nature a.rule)) || has_id a.id of_attachments) ≡ true
  no_rendering : (not (may_drop (use_of a.rule)) || not (eqb a.id rendering_id)) ≡ true

placed : (i : ℕ) (a : Attribute) → attribute_of i ≡ Some a → Placed a
placed i a is =
    let t = attribute_passes stands i a all_stand is in
    let (b, c) = and_parts _ _ t in
    let (d, e) = and_parts _ _ b in
    record { in_message = d; in_attachment = e; no_rendering = c }

implied : (a b : Bool) → a ≡ true → (not a || b) ≡ true → b ≡ true
implied a b t u = rw t at u

not_so : (a : Bool) → not a ≡ true → a ≡ false
not_so true e = absurd (both_ways false refl e)
not_so false e = refl

-- What a target may hold.
abbrev Fit : Target → Holding → Type 0
Fit to_message h = ShapedHolding message_attributes h
Fit (to_row r) h = WellList h.properties
Fit (to_attachment k) h = ShapedAttachment h

fit_list : (t : Target) (h : Holding) → Fit t h → WellList h.properties
fit_list to_message h f = f.list_well
fit_list (to_row r) h f = f
fit_list (to_attachment k) h f = f.holds.list_well

holding_fits : (m : Message) (t : Target) (h : Holding) → Shaped m → holding m t ≡ Some h → Fit t h
holding_fits m to_message h s is = let same : m.own ≡ h = cc in rw same at s.own_shaped
holding_fits m (to_row r) h s is = go (nth m.rows r) refl is
  where
    go : (o : Option (List Property)) → nth m.rows r ≡ o → row_holding o ≡ Some h → WellList h.properties
    go None e q = absurd (let z : ◌≡◌ {A = ℕ} 0 1 = cc in omega arith)
    go (Some ps) e q =
        let same : record { attributes = λ i. None; properties = ps } ≡ h = cc in
        let list : ps ≡ h.properties = ap (λ g. g.properties) same in
        rw list at (nth_all WellList m.rows r ps s.rows_well e)
holding_fits m (to_attachment k) h s is = nth_all ShapedAttachment m.attachments k h s.attachments_shaped is

with_shaped : (m : Message) (t : Target) (h : Holding) → Shaped m → Fit t h → Shaped (with_holding m t h)
with_shaped m to_message h s f = record {
  primary_small = s.primary_small;
  own_shaped = f;
  rows_well = s.rows_well;
  rows_few = s.rows_few;
  attachments_shaped = s.attachments_shaped;
  attachments_few = s.attachments_few;
}
with_shaped m (to_row r) h s f = record {
  primary_small = s.primary_small;
  own_shaped = s.own_shaped;
  rows_well = change_all WellList m.rows r h.properties s.rows_well f;
  rows_few = omega (arith, change_length m.rows r h.properties, s.rows_few);
  attachments_shaped = s.attachments_shaped;
  attachments_few = s.attachments_few;
}
with_shaped m (to_attachment k) h s f = record {
  primary_small = s.primary_small;
  own_shaped = s.own_shaped;
  rows_well = s.rows_well;
  rows_few = s.rows_few;
  attachments_shaped = change_all ShapedAttachment m.attachments k h s.attachments_shaped f;
  attachments_few = omega (arith, change_length m.attachments k h, s.attachments_few);
}

list_fits : (t : Target) (h : Holding) (ps : List Property) → Fit t h → WellList ps → Fit t (with_properties h ps)
list_fits to_message h ps f w = record { admitted = f.admitted; list_well = w }
list_fits (to_row r) h ps f w = w
list_fits (to_attachment k) h ps f w = record { holds = record { admitted = f.holds.admitted; list_well = w }; rendering = f.rendering }

put_fits : (t : Target) (h : Holding) (i l : ℕ) (r : Rule) (c : Contents) → Fit t h → l ≡ target_level t → attribute_of i ≡ Some (attribute i l r) → is_plain (nature r) ≡ true →
    Again r c → Fit t (with_attributes h (put_contents h.attributes i c))
put_fits to_message h i l r c f lev is pl m =
    let has = implied _ _ (and_from _ _ (eq-eqb l 1 lev) pl) (placed i (attribute i l r) is).in_message in
    record { admitted = put_admitted message_attributes h.attributes i (attribute i l r) c f.admitted is has m; list_well = f.list_well }
put_fits (to_row k) h i l r c f lev is pl m = f
put_fits (to_attachment k) h i l r c f lev is pl m =
    let has = implied _ _ (and_from _ _ (eq-eqb l 2 lev) pl) (placed i (attribute i l r) is).in_attachment in
    record {
      holds = record { admitted = put_admitted of_attachments h.attributes i (attribute i l r) c f.holds.admitted is has m; list_well = f.holds.list_well };
      rendering = put_rendering h.attributes i c f.rendering;
    }

drop_fits : (t : Target) (h : Holding) (i : ℕ) → Fit t h → eqb i rendering_id ≡ false → Fit t (with_attributes h (without_id i h.attributes))
drop_fits to_message h i f no' = record { admitted = drop_admitted message_attributes h.attributes i f.admitted; list_well = f.list_well }
drop_fits (to_row k) h i f no' = f
drop_fits (to_attachment k) h i f no' =
    let (c, is) = f.rendering in
    record {
      holds = record { admitted = drop_admitted of_attachments h.attributes i f.holds.admitted; list_well = f.holds.list_well };
      rendering = (c, rw no' is);
    }

-- One clause a rule.
put_shaped : (m : Message) (t : Target) (i l : ℕ) (r : Rule) (c : Contents) (h : Holding) (ds : List ℕ) → Octets ds → means r ds ≡ Some c → may_put (use_of r) ≡ true →
    Shaped m → Fit t h → l ≡ target_level t → attribute_of i ≡ Some (attribute i l r) → Shaped (put_meaning m t (attribute i l r) c h r)
put_shaped m t i l Text c h ds o e may s f lev is = with_shaped m t _ s (put_fits t h i l Text c f lev is refl (again Text ds c o e))
put_shaped m t i l Class c h ds o e may s f lev is = with_shaped m t _ s (put_fits t h i l Class c f lev is refl (again Class ds c o e))
put_shaped m t i l Date c h ds o e may s f lev is = with_shaped m t _ s (put_fits t h i l Date c f lev is refl (again Date ds c o e))
put_shaped m t i l Digits c h ds o e may s f lev is = with_shaped m t _ s (put_fits t h i l Digits c f lev is refl (again Digits ds c o e))
put_shaped m t i l Status c h ds o e may s f lev is = with_shaped m t _ s (put_fits t h i l Status c f lev is refl (again Status ds c o e))
put_shaped m t i l Priority c h ds o e may s f lev is = with_shaped m t _ s (put_fits t h i l Priority c f lev is refl (again Priority ds c o e))
put_shaped m t i l YesNo c h ds o e may s f lev is = with_shaped m t _ s (put_fits t h i l YesNo c f lev is refl (again YesNo ds c o e))
put_shaped m t i l Raw c h ds o e may s f lev is = with_shaped m t _ s (put_fits t h i l Raw c f lev is refl (again Raw ds c o e))
put_shaped m t i l Rendering c h ds o e may s f lev is = with_shaped m t _ s (put_fits t h i l Rendering c f lev is refl (again Rendering ds c o e))
put_shaped m t i l Version c h ds o e may s f lev is = absurd (both_ways false refl may)
put_shaped m t i l Recipients c h ds o e may s f lev is = absurd (both_ways false refl may)
put_shaped m t i l Properties c h ds o e may s f lev is = absurd (both_ways false refl may)
put_shaped m t i l CodePage c h ds o e may s f lev is = record {
  primary_small = page_small ds c o e;
  own_shaped = s.own_shaped;
  rows_well = s.rows_well;
  rows_few = s.rows_few;
  attachments_shaped = s.attachments_shaped;
  attachments_few = s.attachments_few;
}

with_rows : (m : Message) (rs : List (List Property)) → Shaped m → AllByRecursion WellList rs → length rs ≤ row_limit → Shaped (record { primary = m.primary; own = m.own; rows = rs; attachments = m.attachments })
with_rows m rs s w few = record {
  primary_small = s.primary_small;
  own_shaped = s.own_shaped;
  rows_well = w;
  rows_few = few;
  attachments_shaped = s.attachments_shaped;
  attachments_few = s.attachments_few;
}

with_attachments : (m : Message) (hs : List Holding) → Shaped m → AllByRecursion ShapedAttachment hs → length hs ≤ attachment_limit → Shaped (record { primary = m.primary; own = m.own; rows = m.rows; attachments = hs })
with_attachments m hs s w few = record {
  primary_small = s.primary_small;
  own_shaped = s.own_shaped;
  rows_well = s.rows_well;
  rows_few = s.rows_few;
  attachments_shaped = w;
  attachments_few = few;
}

rendering_is : attribute_of rendering_id ≡ Some rendering_attribute
unfolding attribute_of
rendering_is = refl

pub nothing_admitted : (ls : List Attribute) → Admitted ls (λ j. None)
nothing_admitted ls i c is = absurd (let z : ◌≡◌ {A = ℕ} 0 1 = cc in omega arith)

pub empty_list : WellList []
empty_list = (list_from [] (omega arith) tt, tt)

bare_shaped : (ds : List ℕ) (c : Contents) → Octets ds → means Rendering ds ≡ Some c → ShapedAttachment (bare_attachment c)
bare_shaped ds c o e = record {
  holds = record { admitted = put_admitted of_attachments (λ j. None) rendering_id rendering_attribute c (nothing_admitted of_attachments) rendering_is refl (again Rendering ds c o e); list_well = empty_list };
  rendering = (c, refl);
}

-- Every accepted edit leaves a shaped message.
pub change_shaped : (e : Edit) (m n : Message) → GivenOctets e → Shaped m → change e m ≡ Ok n → Shaped n
unfolding change
change_shaped (put_attribute t i xs) m n o s q =
    let (h, eh, q₁) = given_then _ _ _ _ _ q in
    let (e, ee, q₂) = bind_ok _ _ _ q₁ in
    let (c, ec, q₃) = bind_ok _ _ _ q₂ in
    let (is, lev, may) = attribute_ok t i may_put e ee in
    let id : e.id ≡ i = id_of i e is in
    let same : put_meaning m t e c h e.rule ≡ n = ok_same _ n q₃ in
    rw same at (put_shaped m t e.id e.level e.rule c h xs o (contents_ok e.rule xs c ec) may s (holding_fits m t h s eh) lev (ap attribute_of id ∙ is))
change_shaped (put_property t xs) m n o s q =
    let (h, eh, q₁) = given_then _ _ _ _ _ q in
    let (p, ep, q₂) = bind_ok _ _ _ q₁ in
    let (room, q₃) = need_ok _ _ _ _ _ q₂ in
    let same : with_holding m t (with_properties h (put_in h.properties p)) ≡ n = ok_same _ n q₃ in
    let f = holding_fits m t h s eh in
    rw same at (with_shaped m t _ s (list_fits t h _ f (put_well h.properties p (fit_list t h f) (property_ok xs p o ep) room)))
change_shaped (drop_attribute t i) m n o s q =
    let (h, eh, q₁) = given_then _ _ _ _ _ q in
    let (e, ee, q₂) = bind_ok _ _ _ q₁ in
    let (c, ec, q₃) = given_then (h.attributes i) _ _ _ _ q₂ in
    let (is, lev, may) = attribute_ok t i may_drop e ee in
    let no' : eqb i rendering_id ≡ false = ap (λ j. eqb j rendering_id) (sym (id_of i e is)) ∙ not_so _ (implied _ _ may (placed i e is).no_rendering) in
    let same : with_holding m t (with_attributes h (without_id i h.attributes)) ≡ n = ok_same _ n q₃ in
    rw same at (with_shaped m t _ s (drop_fits t h i (holding_fits m t h s eh) no'))
change_shaped (drop_property t xs) m n o s q =
    let (h, eh, q₁) = given_then _ _ _ _ _ q in
    let (k, ek, q₂) = bind_ok (given_key xs) _ _ q₁ in
    let (has, q₃) = need_ok (has_key k h.properties) _ _ _ _ q₂ in
    let same : with_holding m t (with_properties h (without_key k h.properties)) ≡ n = ok_same _ n q₃ in
    let f = holding_fits m t h s eh in
    rw same at (with_shaped m t _ s (list_fits t h _ f (drop_well k h.properties (fit_list t h f))))
change_shaped add_row m n o s q =
    let (room, q₁) = need_ok _ _ _ _ _ q in
    let less = ltb-true (length m.rows) row_limit room in
    let same : record { primary = m.primary; own = m.own; rows = m.rows ++ [] ∷ []; attachments = m.attachments } ≡ n = ok_same _ n q₁ in
    rw same at (with_rows m (m.rows ++ [] ∷ []) s (All-push WellList m.rows [] s.rows_well empty_list) (omega (arith, length-append m.rows ([] ∷ []))))
change_shaped (add_attachment xs) m n o s q =
    let (c, ec, q₁) = bind_ok _ _ _ q in
    let (room, q₂) = need_ok _ _ _ _ _ q₁ in
    let less = ltb-true (length m.attachments) attachment_limit room in
    let same : record { primary = m.primary; own = m.own; rows = m.rows; attachments = m.attachments ++ bare_attachment c ∷ [] } ≡ n = ok_same _ n q₂ in
    rw same at (with_attachments m (m.attachments ++ bare_attachment c ∷ []) s (All-push ShapedAttachment m.attachments (bare_attachment c) s.attachments_shaped (bare_shaped xs c o (contents_ok Rendering xs c ec))) (omega (arith, length-append m.attachments (bare_attachment c ∷ []))))
change_shaped (remove_row r) m n o s q =
    let (ps, ep, q₁) = given_then (nth m.rows r) _ _ _ _ q in
    let same : record { primary = m.primary; own = m.own; rows = without_nth m.rows r; attachments = m.attachments } ≡ n = ok_same _ n q₁ in
    rw same at (with_rows m (without_nth m.rows r) s (without_all WellList m.rows r s.rows_well) (omega (arith, without_length m.rows r, s.rows_few)))
change_shaped (remove_attachment k) m n o s q =
    let (h, eh, q₁) = given_then (nth m.attachments k) _ _ _ _ q in
    let same : record { primary = m.primary; own = m.own; rows = m.rows; attachments = without_nth m.attachments k } ≡ n = ok_same _ n q₁ in
    rw same at (with_attachments m (without_nth m.attachments k) s (without_all ShapedAttachment m.attachments k s.attachments_shaped) (omega (arith, without_length m.attachments k, s.attachments_few)))

-- A change of a message with a short form is a message again.
pub change_well : (e : Edit) (m n : Message) → GivenOctets e → Well m → change e m ≡ Ok n → length (written n) ≤ source_limit → Well n
change_well e m n o w q short = shaped_well n (change_shaped e m n o (well_shaped m w) q) short

pub changes_keep : ChangesKeep
changes_keep e m n is o q short =
    let w = change_well e m n o (well m is) q short in
    (written n, (form_octets n w, short), form_read n w)
