-- What one accepted put or drop makes of a message, place by place.
use Rattle.std.proofs.Common.{◌≡◌, ℕ, Bool, true, false, cond, not, ◌&&◌, eqb, ◌⊎◌, List, length, is_some, Some, None, Ok, Err, Option, sym, refl, ap, ◌∙◌, inl, inr}
use Rattle.std.proofs.lemmas.Bool.{cases_Bool, both_ways, and_parts, and_right}
use Rattle.source.specs.Outcome.{Outcome}
use Rattle.source.proofs.Outcomes.{ok_same}
use Rattle.scan.specs.Texts.{also}
use Rattle.attribute.specs.Table.{attribute, attribute_of, attributes, code_page_id}
use Rattle.attribute.specs.declared.Attribute.{Attribute}
use Rattle.attribute.specs.declared.Rule.{Rule}
use Rattle.attribute.specs.declared.Rule.TheVariants as rule
use Rattle.contents.specs.Options.{then}
use Rattle.contents.specs.Contents.{Contents, means, primary_number}
use Rattle.index.specs.Keys.{Key, same_key}
use Rattle.property.specs.Lists.{Property}
use Rattle.stream.specs.Messages.{Message, Holding, or_default}
use Rattle.message.specs.declared.Target.{Target}
use Rattle.message.specs.declared.Target.TheVariants.{Message as to_message, Row as to_row, Attachment as to_attachment}
use Rattle.message.specs.Sameness.{holding, property_in, contents_held, property_held, keys_held, contents_at, property_under, keys_at}
use Rattle.message.proofs.Outcomes.{bind_ok, need_ok}
use Rattle.message.proofs.FrameReads.{id_of}
use Rattle.message.proofs.Laying.{Well}
use Rattle.editing.specs.Slots.{without_id, put_contents, has_key, put_in, without_key}
use Rattle.editing.specs.Targets.{with_holding, with_attributes, with_properties, target_level, may_put, may_drop, attribute_for}
use Rattle.editing.specs.Edits.{put_attribute, put_property, drop_attribute, drop_property, given_contents, given_property, given_key, set_primary, put_meaning, change}
use Rattle.editing.proofs.Givens.{given_then, contents_ok, attribute_ok, passes, attribute_passes}
use Rattle.promise.specs.Commuting.{same_target, Touch, put_contents as touch_put, put_value, drop_contents, drop_value, as_edit}
use Rattle.promise.proofs.Orders.{Mark, adds, removes, nothing, moved}
use Rattle.promise.proofs.Holdings.{same_target_true, target_same, Room, room_held, held_there, held_other, rows_kept, attachments_kept, primary_kept, held_apart, room_properties, room_level, own_level}
use Rattle.promise.proofs.Keyed.{keys, put_keys, without_keys, put_under, without_under}

-- The table.
abbrev is_page : Rule → Bool
is_page rule.Text = false
is_page rule.Class = false
is_page rule.Date = false
is_page rule.Digits = false
is_page rule.Status = false
is_page rule.Priority = false
is_page rule.YesNo = false
is_page rule.Raw = false
is_page rule.Rendering = false
is_page rule.Version = false
is_page rule.CodePage = true
is_page rule.Recipients = false
is_page rule.Properties = false

-- Every attribute has a level; the one of the rule for the code page is the message's, and no other has its id.
abbrev good : Attribute → Bool
good a = not (eqb a.level 0) && cond (is_page a.rule) (eqb a.id code_page_id && eqb a.level 1) (not (eqb a.id code_page_id))

all_good : passes good attributes ≡ true
all_good = refl

meaning_put : (m : Message) (t : Target) (i l : ℕ) (r : Rule) (c : Contents) (h : Holding) →
    put_meaning m t (attribute i l r) c h r ≡
    cond (is_page r) (set_primary m (primary_number c)) (with_holding m t (with_attributes h (put_contents h.attributes i c)))
meaning_put m t i l rule.Text c h = refl
meaning_put m t i l rule.Class c h = refl
meaning_put m t i l rule.Date c h = refl
meaning_put m t i l rule.Digits c h = refl
meaning_put m t i l rule.Status c h = refl
meaning_put m t i l rule.Priority c h = refl
meaning_put m t i l rule.YesNo c h = refl
meaning_put m t i l rule.Raw c h = refl
meaning_put m t i l rule.Rendering c h = refl
meaning_put m t i l rule.Version c h = refl
meaning_put m t i l rule.CodePage c h = refl
meaning_put m t i l rule.Recipients c h = refl
meaning_put m t i l rule.Properties c h = refl

-- What a touch sets at each place.
abbrev pub value_of : ℕ → List ℕ → Option Contents
value_of i xs = then (attribute_of i) (λ e. means e.rule xs)

abbrev pub contents_by : Target → ℕ → Touch → Option (Option Contents)
contents_by t j (touch_put u i xs) = cond (same_target t u && (eqb i j && not (eqb i code_page_id))) (also (value_of i xs) (λ c. Some c)) None
contents_by t j (put_value u xs) = None
contents_by t j (drop_contents u i) = cond (same_target t u && eqb i j) (Some None) None
contents_by t j (drop_value u xs) = None

abbrev pub primary_by : Touch → Option ℕ
primary_by (touch_put u i xs) = cond (same_target to_message u && eqb i code_page_id) (also (value_of i xs) primary_number) None
primary_by (put_value u xs) = None
primary_by (drop_contents u i) = None
primary_by (drop_value u xs) = None

abbrev pub put_of : Key → Outcome Property → Option (Option Property)
put_of k (Ok p) = cond (same_key p.key k) (Some (Some p)) None
put_of k (Err e) = None

abbrev pub drop_of : Key → Outcome Key → Option (Option Property)
drop_of k (Ok l) = cond (same_key l k) (Some None) None
drop_of k (Err e) = None

abbrev pub property_by : Target → Key → Touch → Option (Option Property)
property_by t k (touch_put u i xs) = None
property_by t k (put_value u xs) = cond (same_target t u) (put_of k (given_property xs)) None
property_by t k (drop_contents u i) = None
property_by t k (drop_value u xs) = cond (same_target t u) (drop_of k (given_key xs)) None

abbrev pub mark_put : Outcome Property → Mark
mark_put (Ok p) = adds p.key
mark_put (Err e) = nothing

abbrev pub mark_drop : Outcome Key → Mark
mark_drop (Ok k) = removes k
mark_drop (Err e) = nothing

abbrev pub mark : Target → Touch → Mark
mark t (touch_put u i xs) = nothing
mark t (put_value u xs) = cond (same_target t u) (mark_put (given_property xs)) nothing
mark t (drop_contents u i) = nothing
mark t (drop_value u xs) = cond (same_target t u) (mark_drop (given_key xs)) nothing

pub record Stepped (g : Touch) (m n : Message) : Type 0 where
  pub primary : n.primary ≡ or_default (primary_by g) m.primary
  pub rows : length n.rows ≡ length m.rows
  pub attachments : length n.attachments ≡ length m.attachments
  pub contents : (t : Target) (i : ℕ) → contents_at n t i ≡ or_default (contents_by t i g) (contents_at m t i)
  pub properties : (t : Target) (k : Key) → property_under n t k ≡ or_default (property_by t k g) (property_under m t k)
  pub order : (t : Target) → keys_at n t ≡ moved (mark t g) (keys_at m t)
  pub there : (t : Target) → is_some (holding n t) ≡ is_some (holding m t)

-- A touch of target u that sets nothing elsewhere.
record AtOne (g : Touch) (u : Target) (h k : Holding) : Type 0 where
  attributes_there : (i : ℕ) → k.attributes i ≡ or_default (contents_by u i g) (h.attributes i)
  attributes_else : (t : Target) (i : ℕ) → same_target t u ≡ false → contents_by t i g ≡ None
  properties_there : (l : Key) → property_in k.properties l ≡ or_default (property_by u l g) (property_in h.properties l)
  properties_else : (t : Target) (l : Key) → same_target t u ≡ false → property_by t l g ≡ None
  keys_there : keys k.properties ≡ moved (mark u g) (keys h.properties)
  keys_else : (t : Target) → same_target t u ≡ false → mark t g ≡ nothing

stepped : (g : Touch) (m : Message) (u : Target) (h k : Holding) → holding m u ≡ Some h → Room u k → primary_by g ≡ None → AtOne g u h k → Stepped g m (with_holding m u k)
stepped g m u h k is room p a =
    record {
      primary = primary_kept m u k ∙ ap (λ o. or_default o m.primary) (sym p);
      rows = rows_kept m u k;
      attachments = attachments_kept m u k;
      contents = λ t i. at_contents t i (cases_Bool (same_target t u));
      properties = λ t l. at_property t l (cases_Bool (same_target t u));
      order = λ t. at_keys t (cases_Bool (same_target t u));
      there = λ t. at_there t (cases_Bool (same_target t u));
    }
  where
    now : holding (with_holding m u k) u ≡ Some k
    now = held_there m u h k is room

    at_contents : (t : Target) (i : ℕ) → (same_target t u ≡ true) ⊎ (same_target t u ≡ false) →
        contents_at (with_holding m u k) t i ≡ or_default (contents_by t i g) (contents_at m t i)
    at_contents t i (inl e) = rw (same_target_true t u e) (ap (λ o. contents_held o i) now ∙ (a.attributes_there i ∙ ap (λ o. or_default (contents_by u i g) (contents_held o i)) (sym is)))
    at_contents t i (inr e) = ap (λ o. contents_held o i) (held_other m u t k e) ∙ ap (λ o. or_default o (contents_at m t i)) (sym (a.attributes_else t i e))

    at_property : (t : Target) (l : Key) → (same_target t u ≡ true) ⊎ (same_target t u ≡ false) →
        property_under (with_holding m u k) t l ≡ or_default (property_by t l g) (property_under m t l)
    at_property t l (inl e) = rw (same_target_true t u e) (ap (λ o. property_held o l) now ∙ (a.properties_there l ∙ ap (λ o. or_default (property_by u l g) (property_held o l)) (sym is)))
    at_property t l (inr e) = ap (λ o. property_held o l) (held_other m u t k e) ∙ ap (λ o. or_default o (property_under m t l)) (sym (a.properties_else t l e))

    at_keys : (t : Target) → (same_target t u ≡ true) ⊎ (same_target t u ≡ false) →
        keys_at (with_holding m u k) t ≡ moved (mark t g) (keys_at m t)
    at_keys t (inl e) = rw (same_target_true t u e) (ap keys_held now ∙ (a.keys_there ∙ ap (λ o. moved (mark u g) (keys_held o)) (sym is)))
    at_keys t (inr e) = ap keys_held (held_other m u t k e) ∙ ap (λ o. moved o (keys_at m t)) (sym (a.keys_else t e))

    at_there : (t : Target) → (same_target t u ≡ true) ⊎ (same_target t u ≡ false) → is_some (holding (with_holding m u k) t) ≡ is_some (holding m t)
    at_there t (inl e) = rw (same_target_true t u e) (ap is_some now ∙ ap is_some (sym is))
    at_there t (inr e) = ap is_some (held_other m u t k e)

chosen : {A : Type 0} (b : Bool) (x y : A) → cond b x y ≡ or_default (cond b (Some x) None) y
chosen true x y = refl
chosen false x y = refl

chosen_and : {A : Type 0} (b : Bool) (x y : A) → cond b x y ≡ or_default (cond (b && true) (Some x) None) y
chosen_and true x y = refl
chosen_and false x y = refl

and_off : (a b : Bool) → (a && (b && false)) ≡ false
and_off true true = refl
and_off true false = refl
and_off false b = refl

put_property_made : (m n : Message) (u : Target) (xs : List ℕ) (h : Holding) (p : Property) → holding m u ≡ Some h → given_property xs ≡ Ok p →
    with_holding m u (with_properties h (put_in h.properties p)) ≡ n → Stepped (put_value u xs) m n
put_property_made m n u xs h p is isp made =
    rw (← made) (stepped (put_value u xs) m u h (with_properties h (put_in h.properties p)) is (room_properties u h (put_in h.properties p) (room_held m u h is)) refl (record {
      attributes_there = λ i. refl;
      attributes_else = λ t i d. refl;
      properties_there = λ l. rw (target_same u, isp) (put_under h.properties p l ∙ chosen (same_key p.key l) (Some p) (property_in h.properties l));
      properties_else = λ t l d. rw d;
      keys_there = rw (target_same u, isp) (put_keys h.properties p);
      keys_else = λ t d. rw d;
    }))

put_property_steps : (m n : Message) (u : Target) (xs : List ℕ) → change (put_property u xs) m ≡ Ok n → Stepped (put_value u xs) m n
unfolding change
put_property_steps m n u xs e =
    let (h, is, e₁) = given_then (holding m u) _ _ _ _ e in
    let (p, isp, e₂) = bind_ok (given_property xs) _ _ e₁ in
    let (c, e₃) = need_ok _ _ _ _ _ e₂ in
    put_property_made m n u xs h p is isp (ok_same _ n e₃)

drop_property_made : (m n : Message) (u : Target) (xs : List ℕ) (h : Holding) (k : Key) → Well m → holding m u ≡ Some h → given_key xs ≡ Ok k →
    with_holding m u (with_properties h (without_key k h.properties)) ≡ n → Stepped (drop_value u xs) m n
drop_property_made m n u xs h k w is isk made =
    rw (← made) (stepped (drop_value u xs) m u h (with_properties h (without_key k h.properties)) is (room_properties u h (without_key k h.properties) (room_held m u h is)) refl (record {
      attributes_there = λ i. refl;
      attributes_else = λ t i d. refl;
      properties_there = λ l. rw (target_same u, isk) (without_under k h.properties l (held_apart m u h w is) ∙ chosen (same_key k l) None (property_in h.properties l));
      properties_else = λ t l d. rw d;
      keys_there = rw (target_same u, isk) (without_keys k h.properties);
      keys_else = λ t d. rw d;
    }))

drop_property_steps : (m n : Message) (u : Target) (xs : List ℕ) → Well m → change (drop_property u xs) m ≡ Ok n → Stepped (drop_value u xs) m n
unfolding change
drop_property_steps m n u xs w e =
    let (h, is, e₁) = given_then (holding m u) _ _ _ _ e in
    let (k, isk, e₂) = bind_ok (given_key xs) _ _ e₁ in
    let (c, e₃) = need_ok (has_key k h.properties) _ _ _ _ e₂ in
    drop_property_made m n u xs h k w is isk (ok_same _ n e₃)

drop_attribute_made : (m n : Message) (u : Target) (i : ℕ) (h : Holding) → holding m u ≡ Some h → Room u (with_attributes h (without_id i h.attributes)) →
    with_holding m u (with_attributes h (without_id i h.attributes)) ≡ n → Stepped (drop_contents u i) m n
drop_attribute_made m n u i h is room made =
    rw (← made) (stepped (drop_contents u i) m u h (with_attributes h (without_id i h.attributes)) is room refl (record {
      attributes_there = λ j. rw (target_same u) (chosen (eqb i j) None (h.attributes j));
      attributes_else = λ t j d. rw d;
      properties_there = λ l. refl;
      properties_else = λ t l d. refl;
      keys_there = refl;
      keys_else = λ t d. refl;
    }))

drop_attribute_steps : (m n : Message) (u : Target) (i : ℕ) → change (drop_attribute u i) m ≡ Ok n → Stepped (drop_contents u i) m n
unfolding change
drop_attribute_steps m n u i e =
    let (h, is, e₁) = given_then (holding m u) _ _ _ _ e in
    let (f, isf, e₂) = bind_ok (attribute_for u i may_drop) _ _ e₁ in
    let (c, isc, e₃) = given_then (h.attributes i) _ _ _ _ e₂ in
    let (known, level, may) = attribute_ok u i may_drop f isf in
    let ok = attribute_passes good i f all_good known in
    let (low, rest) = and_parts (not (eqb f.level 0)) _ ok in
    drop_attribute_made m n u i h is (room_level u f.level _ level low) (ok_same _ n e₃)

put_plain_made : (m n : Message) (u : Target) (i : ℕ) (xs : List ℕ) (h : Holding) (c : Contents) → holding m u ≡ Some h → value_of i xs ≡ Some c → eqb i code_page_id ≡ false →
    Room u (with_attributes h (put_contents h.attributes i c)) →
    with_holding m u (with_attributes h (put_contents h.attributes i c)) ≡ n → Stepped (touch_put u i xs) m n
put_plain_made m n u i xs h c is value other room made =
    rw (← made) (stepped (touch_put u i xs) m u h (with_attributes h (put_contents h.attributes i c)) is room none_set (record {
      attributes_there = λ j. set_there j;
      attributes_else = λ t j d. rw d;
      properties_there = λ l. refl;
      properties_else = λ t l d. refl;
      keys_there = refl;
      keys_else = λ t d. refl;
    }))
  where
    none_set : primary_by (touch_put u i xs) ≡ None
    none_set = rw (and_right (same_target to_message u) (eqb i code_page_id) other)

    set_there : (j : ℕ) → put_contents h.attributes i c j ≡ or_default (contents_by u j (touch_put u i xs)) (h.attributes j)
    set_there j = rw (target_same u, other, value) (chosen_and (eqb i j) (Some c) (h.attributes j))

put_page_made : (m n : Message) (u : Target) (i : ℕ) (xs : List ℕ) (c : Contents) → value_of i xs ≡ Some c → eqb i code_page_id ≡ true → u ≡ to_message →
    set_primary m (primary_number c) ≡ n → Stepped (touch_put u i xs) m n
put_page_made m n u i xs c value page own made =
    rw (← made) (record {
      primary = rw (own, page, value) refl;
      rows = refl;
      attachments = refl;
      contents = λ t j. rw (page, and_off (same_target t u) (eqb i j)) (same_contents t j);
      properties = λ t l. same_properties t l;
      order = λ t. same_order t;
      there = λ t. same_there t;
    })
  where
    same_held : (t : Target) → holding (set_primary m (primary_number c)) t ≡ holding m t
    same_held to_message = refl
    same_held (to_row r) = refl
    same_held (to_attachment k) = refl

    same_properties : (t : Target) (l : Key) → property_under (set_primary m (primary_number c)) t l ≡ property_under m t l
    same_properties t l = ap (λ o. property_held o l) (same_held t)

    same_contents : (t : Target) (j : ℕ) → contents_at (set_primary m (primary_number c)) t j ≡ contents_at m t j
    same_contents t j = ap (λ o. contents_held o j) (same_held t)

    same_order : (t : Target) → keys_at (set_primary m (primary_number c)) t ≡ keys_at m t
    same_order t = ap keys_held (same_held t)

    same_there : (t : Target) → is_some (holding (set_primary m (primary_number c)) t) ≡ is_some (holding m t)
    same_there t = ap is_some (same_held t)

put_attribute_made : (m n : Message) (u : Target) (i : ℕ) (xs : List ℕ) (h : Holding) (f : Attribute) (c : Contents) → holding m u ≡ Some h → f.level ≡ target_level u → f.id ≡ i →
    value_of i xs ≡ Some c → good f ≡ true → put_meaning m u f c h f.rule ≡ n → Stepped (touch_put u i xs) m n
put_attribute_made m n u i xs h f c is level id value ok made =
    let (low, rest) = and_parts (not (eqb f.level 0)) _ ok in
    go low rest (cases_Bool (is_page f.rule)) (sym (meaning_put m u f.id f.level f.rule c h) ∙ made)
  where
    go : not (eqb f.level 0) ≡ true →
        cond (is_page f.rule) (eqb f.id code_page_id && eqb f.level 1) (not (eqb f.id code_page_id)) ≡ true →
        (is_page f.rule ≡ true) ⊎ (is_page f.rule ≡ false) →
        cond (is_page f.rule) (set_primary m (primary_number c)) (with_holding m u (with_attributes h (put_contents h.attributes f.id c))) ≡ n →
        Stepped (touch_put u i xs) m n
    go low rest (inl page) made =
        let both : (eqb f.id code_page_id && eqb f.level 1) ≡ true = rw page at rest in
        let (a, b) = and_parts _ _ both in
        put_page_made m n u i xs c value (ap (λ k. eqb k code_page_id) (sym id) ∙ a) (own_level u f.level level b) (rw page at made)
    go low rest (inr plain) made =
        let other : not (eqb f.id code_page_id) ≡ true = rw plain at rest in
        let no : eqb i code_page_id ≡ false = ap (λ k. eqb k code_page_id) (sym id) ∙ not_not (eqb f.id code_page_id) other in
        put_plain_made m n u i xs h c is value no (room_level u f.level _ level low)
        (ap (λ k. with_holding m u (with_attributes h (put_contents h.attributes k c))) (sym id) ∙ (rw plain at made))
      where
        not_not : (b : Bool) → not b ≡ true → b ≡ false
        not_not true e = absurd (both_ways false refl e)
        not_not false e = refl

put_attribute_steps : (m n : Message) (u : Target) (i : ℕ) (xs : List ℕ) → change (put_attribute u i xs) m ≡ Ok n → Stepped (touch_put u i xs) m n
unfolding change
put_attribute_steps m n u i xs e =
    let (h, is, e₁) = given_then (holding m u) _ _ _ _ e in
    let (f, isf, e₂) = bind_ok (attribute_for u i may_put) _ _ e₁ in
    let (c, isc, e₃) = bind_ok (given_contents f.rule xs) _ _ e₂ in
    let (known, level, may) = attribute_ok u i may_put f isf in
    let made : put_meaning m u f c h f.rule ≡ n = ok_same _ n e₃ in
    let ok = attribute_passes good i f all_good known in
    let id = id_of i f known in
    put_attribute_made m n u i xs h f c is level id (ap (λ o. then o (λ a. means a.rule xs)) known ∙ contents_ok f.rule xs c isc) ok made

pub steps_of : (g : Touch) (m n : Message) → Well m → change (as_edit g) m ≡ Ok n → Stepped g m n
steps_of (touch_put u i xs) m n w e = put_attribute_steps m n u i xs e
steps_of (put_value u xs) m n w e = put_property_steps m n u xs e
steps_of (drop_contents u i) m n w e = drop_attribute_steps m n u i e
steps_of (drop_value u xs) m n w e = drop_property_steps m n u xs w e
