-- What an edit makes of a message, at each end of its checks.
use Rattle.std.proofs.Common.{◌≡◌, ℕ, ◌<◌, ◌≤◌, Bool, true, false, not, ◌||◌, eqb, ltb, ◌⊎◌, List, length, Some, None, Ok, Err, Option, sym, refl, ap, ◌∙◌, inl, inr}
use Rattle.std.proofs.lemmas.Bool.{both_ways, lt-ltb, le-ltb}
use Rattle.std.specs.Option.{ok_or}
use Rattle.source.specs.Content.{source_limit}
use Rattle.source.specs.Outcome.{Outcome, ◌>>=◌, ◌>>◌, need, given, refused}
use Rattle.source.specs.declared.refusals.Reason.TheVariants.{Level, UnknownId, Misplaced, NotAdmitted, Limit, Missing}
use Rattle.source.specs.declared.refusals.Refusal.{Refusal}
use Rattle.source.proofs.Outcomes.{err_not_ok, over_got, over_lost}
use Rattle.attribute.specs.Table.{attribute_of}
use Rattle.attribute.specs.declared.Attribute.{Attribute}
use Rattle.attribute.specs.declared.Rule.{Rule}
use Rattle.attribute.specs.declared.Rule.TheVariants as rule
use Rattle.frame.specs.Stages.{attachment_limit}
use Rattle.contents.specs.Contents.{Contents, means}
use Rattle.index.specs.Keys.{Key}
use Rattle.property.specs.Fields.{done}
use Rattle.property.specs.Lists.{Property, list_limit, row_limit}
use Rattle.stream.specs.Messages.{Message, Holding}
use Rattle.message.specs.declared.Target.{Target}
use Rattle.message.specs.declared.Target.TheVariants.{Row as to_row, Attachment as to_attachment}
use Rattle.message.specs.Sameness as sameness
use Rattle.message.specs.Sameness.{nth, row_holding, holding}
use Rattle.message.proofs.FrameReads.{id_of}
use Rattle.editing.specs.Slots.{has_key}
use Rattle.editing.specs.Targets.{Use, use_of, target_level, may_put, may_drop, attribute_for}
use Rattle.editing.specs.Edits.{put_attribute, put_property, drop_attribute, drop_property, add_row, add_attachment, remove_row, remove_attachment, given_contents, given_property, given_key, put_meaning, change}
use Rattle.editing.specs.Amendments as spec
use Rattle.editing.specs.Amendments.{amended, to_target, to_page, to_rows, to_attachments}
use Rattle.draft.specs.Checks.{NamedFor}
use Rattle.draft.proofs.Changing.{at_target, contents_held}

-- What is there, or the refusal of what is missing.
module _ {A : Type 0} (r : Refusal) where
  pub ok_or_got : (o : Option A) (a : A) → Ok a ≡ ok_or o r → o ≡ Some a
  ok_or_got (Some x) a e = cc
  ok_or_got None a e = absurd (err_not_ok (sym e))

  pub ok_or_lost : (o : Option A) (x : Refusal) → Err x ≡ ok_or o r → (o ≡ None) × (x ≡ r)
  ok_or_lost (Some y) x e = absurd (err_not_ok e)
  ok_or_lost None x e = (refl, cc)

got : {A : Type 0} (o : Outcome A) (u : Unit {0}) → Ok u ≡ done o → (a : A) × (o ≡ Ok a)
got o u e = let (a, p, q) = over_got _ o u e in (a, sym p)

lost : {A : Type 0} (o : Outcome A) (e : Refusal) → Err e ≡ done o → o ≡ Err e
lost o e p = sym (over_lost _ o e p)

given_got : {A : Type 0} (o : Option A) (a : A) (p : ℕ) → given o Missing p ≡ Ok a → o ≡ Some a
given_got (Some b) a p e = cc
given_got None a p e = absurd (err_not_ok e)

pub attribute_named : (t : Target) (i : ℕ) (may : Use → Bool) (a : Attribute) → Ok a ≡ attribute_for t i may → NamedFor t i may a
unfolding attribute_for ◌>>=◌ ◌>>◌
attribute_named t i may a e = by (attribute_of i) refl e
  where
    by_may : (b : Attribute) (x : Bool) → may (use_of b.rule) ≡ x → attribute_of i ≡ Some b → eqb b.level (target_level t) ≡ true
        → Ok a ≡ (need x Misplaced 0 >> Ok b) → NamedFor t i may a
    by_may b true q k l e = let s : b ≡ a = cc in let n : NamedFor t i may b = record { known = k; level = l; allowed = q } in rw s at n
    by_may b false q k l e = absurd (err_not_ok (sym e))

    by_level : (b : Attribute) (x : Bool) → eqb b.level (target_level t) ≡ x → attribute_of i ≡ Some b
        → Ok a ≡ (need x Level 0 >> (need (may (use_of b.rule)) Misplaced 0 >> Ok b)) → NamedFor t i may a
    by_level b true q k e = by_may b _ refl k q e
    by_level b false q k e = absurd (err_not_ok (sym e))

    by : (o : Option Attribute) → attribute_of i ≡ o → Ok a ≡ (given o UnknownId 0 >>= (λ b. need (eqb b.level (target_level t)) Level 0 >> (need (may (use_of b.rule)) Misplaced 0 >> Ok b)))
        → NamedFor t i may a
    by (Some b) k e = by_level b _ refl k e
    by None k e = absurd (err_not_ok (sym e))

pub contents_got : (r : Rule) (xs : List ℕ) (u : Unit {0}) → length xs ≤ source_limit → Ok u ≡ done (given_contents r xs)
    → (c : Contents) × (given_contents r xs ≡ Ok c) × (means r xs ≡ Some c)
contents_got r xs u h e = let (c, q) = got (given_contents r xs) u e in (c, q, by (means r xs) c (sym (contents_held r xs h) ∙ q))
  where
    by : (o : Option Contents) (c : Contents) → given o NotAdmitted 0 ≡ Ok c → o ≡ Some c
    by (Some d) c e = cc
    by None c e = absurd (err_not_ok e)

-- What a target that is there holds under a plain attribute's id.
pub held_at : (m : Message) (t : Target) (h : Holding) (i : ℕ) (a : Attribute) (o : Option Contents) → holding m t ≡ Some h → NamedFor t i may_drop a
    → sameness.contents_held (holding m t) a.id ≡ o → h.attributes i ≡ o
held_at m t h i a o there n q = ap h.attributes (sym (id_of i a n.known)) ∙ ap (λ k. sameness.contents_held k a.id) (sym there) ∙ q

pub denied : (b : Bool) → not b ≡ true → b ≡ false
denied true e = absurd (both_ways false refl e)
denied false e = refl

pub upheld : (b : Bool) → not b ≡ false → b ≡ true
upheld true e = refl
upheld false e = absurd (both_ways true e refl)

-- Whether a list has room for a property.
pub is_full : (has : Bool) (n : ℕ) → has ≡ false → list_limit ≤ n → (has || ltb n list_limit) ≡ false
is_full has n e h = rw (e, le-ltb n list_limit h)

pub has_room : (has : Bool) (n : ℕ) → (has ≡ true) ⊎ (n < list_limit) → (has || ltb n list_limit) ≡ true
has_room has n (inl e) = rw e
has_room has n (inr h) = rw (lt-ltb n list_limit h) (by has)
  where
    by : (b : Bool) → (b || true) ≡ true
    by true = refl
    by false = refl

module _ (m : Message) (t : Target) where
  pub target_got : (u : Unit {0}) → Ok u ≡ done (given (holding m t) Missing 0) → (h : Holding) × (holding m t ≡ Some h)
  target_got u e = let (h, q) = got (given (holding m t) Missing 0) u e in (h, given_got (holding m t) h 0 q)

  -- An attribute that is put.
  module _ (i : ℕ) (xs : List ℕ) where
    pub put_no_target : (e : Refusal) → Err e ≡ done (given (holding m t) Missing 0) → change (put_attribute t i xs) m ≡ Err e
    unfolding change ◌>>=◌
    put_no_target e q = rw (lost (given (holding m t) Missing 0) e q)

    module _ (h : Holding) (there : holding m t ≡ Some h) where
      pub put_unnamed : (e : Refusal) → Err e ≡ attribute_for t i may_put → change (put_attribute t i xs) m ≡ Err e
      unfolding change ◌>>=◌
      put_unnamed e q = rw (there, ← q)

      module _ (a : Attribute) (is : Ok a ≡ attribute_for t i may_put) where
        pub put_unfit : (e : Refusal) → Err e ≡ done (given_contents a.rule xs) → change (put_attribute t i xs) m ≡ Err e
        unfolding change ◌>>=◌
        put_unfit e q = rw (there, ← is, lost (given_contents a.rule xs) e q)

        pub put_changed : (c : Contents) → given_contents a.rule xs ≡ Ok c → change (put_attribute t i xs) m ≡ Ok (put_meaning m t a c h a.rule)
        unfolding change ◌>>=◌
        put_changed c q = rw (there, ← is, q)

  -- An attribute that is dropped.
  module _ (i : ℕ) where
    pub drop_no_target : (e : Refusal) → Err e ≡ done (given (holding m t) Missing 0) → change (drop_attribute t i) m ≡ Err e
    unfolding change ◌>>=◌
    drop_no_target e q = rw (lost (given (holding m t) Missing 0) e q)

    module _ (h : Holding) (there : holding m t ≡ Some h) where
      pub drop_unnamed : (e : Refusal) → Err e ≡ attribute_for t i may_drop → change (drop_attribute t i) m ≡ Err e
      unfolding change ◌>>=◌
      drop_unnamed e q = rw (there, ← q)

      module _ (a : Attribute) (is : Ok a ≡ attribute_for t i may_drop) where
        pub drop_absent : h.attributes i ≡ None → change (drop_attribute t i) m ≡ refused Missing 0
        unfolding change ◌>>=◌
        drop_absent q = rw (there, ← is, q)

        pub drop_changed : (c : Contents) → h.attributes i ≡ Some c
            → change (drop_attribute t i) m ≡ Ok (amended (to_target t (record { slot = spec.dropped i; listing = spec.same })) m)
        unfolding change ◌>>=◌
        drop_changed c q = rw (there, ← is, q, at_target m t h (record { slot = spec.dropped i; listing = spec.same }) there)

  -- A property that is put.
  module _ (xs : List ℕ) where
    pub property_no_target : (e : Refusal) → Err e ≡ done (given (holding m t) Missing 0) → change (put_property t xs) m ≡ Err e
    unfolding change ◌>>=◌
    property_no_target e q = rw (lost (given (holding m t) Missing 0) e q)

    module _ (h : Holding) (there : holding m t ≡ Some h) where
      pub property_unfit : (e : Refusal) → given_property xs ≡ Err e → change (put_property t xs) m ≡ Err e
      unfolding change ◌>>=◌
      property_unfit e q = rw (there, q)

      pub property_full : (p : Property) → given_property xs ≡ Ok p → (has_key p.key h.properties || ltb (length h.properties) list_limit) ≡ false
          → change (put_property t xs) m ≡ refused Limit 0
      unfolding change ◌>>=◌ ◌>>◌
      property_full p q f = rw (there, q, f)

      pub property_changed : (p : Property) → given_property xs ≡ Ok p → (has_key p.key h.properties || ltb (length h.properties) list_limit) ≡ true
          → change (put_property t xs) m ≡ Ok (amended (to_target t (record { slot = spec.kept; listing = spec.with_property p })) m)
      unfolding change ◌>>=◌ ◌>>◌
      property_changed p q f = rw (there, q, f, at_target m t h (record { slot = spec.kept; listing = spec.with_property p }) there)

  -- A property that is dropped.
  module _ (xs : List ℕ) where
    pub less_no_target : (e : Refusal) → Err e ≡ done (given (holding m t) Missing 0) → change (drop_property t xs) m ≡ Err e
    unfolding change ◌>>=◌
    less_no_target e q = rw (lost (given (holding m t) Missing 0) e q)

    module _ (h : Holding) (there : holding m t ≡ Some h) where
      pub less_unfit : (e : Refusal) → given_key xs ≡ Err e → change (drop_property t xs) m ≡ Err e
      unfolding change ◌>>=◌
      less_unfit e q = rw (there, q)

      pub less_absent : (k : Key) → given_key xs ≡ Ok k → has_key k h.properties ≡ false → change (drop_property t xs) m ≡ refused Missing 0
      unfolding change ◌>>=◌ ◌>>◌
      less_absent k q f = rw (there, q, f)

      pub less_changed : (k : Key) → given_key xs ≡ Ok k → has_key k h.properties ≡ true
          → change (drop_property t xs) m ≡ Ok (amended (to_target t (record { slot = spec.kept; listing = spec.less_key k })) m)
      unfolding change ◌>>=◌ ◌>>◌
      less_changed k q f = rw (there, q, f, at_target m t h (record { slot = spec.kept; listing = spec.less_key k }) there)

-- Rows and attachments.
module _ (m : Message) where
  pub row_full : ltb (length m.rows) row_limit ≡ false → change add_row m ≡ refused Limit 0
  unfolding change ◌>>◌
  row_full f = rw f

  pub row_put : ltb (length m.rows) row_limit ≡ true → change add_row m ≡ Ok (amended (to_rows spec.row_added) m)
  unfolding change ◌>>◌
  row_put f = rw f

  pub rendering_unfit : (xs : List ℕ) (e : Refusal) → Err e ≡ done (given_contents rule.Rendering xs) → change (add_attachment xs) m ≡ Err e
  unfolding change ◌>>=◌
  rendering_unfit xs e q = rw (lost (given_contents rule.Rendering xs) e q)

  pub attachments_full : (xs : List ℕ) (c : Contents) → given_contents rule.Rendering xs ≡ Ok c → ltb (length m.attachments) attachment_limit ≡ false
      → change (add_attachment xs) m ≡ refused Limit 0
  unfolding change ◌>>=◌ ◌>>◌
  attachments_full xs c q f = rw (q, f)

  pub attachment_put : (xs : List ℕ) (c : Contents) → given_contents rule.Rendering xs ≡ Ok c → ltb (length m.attachments) attachment_limit ≡ true
      → change (add_attachment xs) m ≡ Ok (amended (to_attachments (spec.attachment_added c)) m)
  unfolding change ◌>>=◌ ◌>>◌
  attachment_put xs c q f = rw (q, f)

  -- What is removed is there or not.
  pub row_not_there : (r : ℕ) (e : Refusal) → Err e ≡ done (given (holding m (to_row r)) Missing 0) → change (remove_row r) m ≡ Err e
  unfolding change ◌>>=◌
  row_not_there r e q = by (nth m.rows r) q
    where
      by : (o : Option (List Property)) → Err e ≡ done (given (row_holding o) Missing 0)
          → (given o Missing 0 >>= (λ ps. Ok (amended (to_rows (spec.row_removed r)) m))) ≡ Err e
      by (Some ps) q = absurd (err_not_ok q)
      by None q = cc

  pub row_there : (r : ℕ) (u : Unit {0}) → Ok u ≡ done (given (holding m (to_row r)) Missing 0) → change (remove_row r) m ≡ Ok (amended (to_rows (spec.row_removed r)) m)
  unfolding change ◌>>=◌
  row_there r u q = by (nth m.rows r) q
    where
      by : (o : Option (List Property)) → Ok u ≡ done (given (row_holding o) Missing 0)
          → (given o Missing 0 >>= (λ ps. Ok (amended (to_rows (spec.row_removed r)) m))) ≡ Ok (amended (to_rows (spec.row_removed r)) m)
      by (Some ps) q = refl
      by None q = absurd (err_not_ok (sym q))

  pub attachment_not_there : (k : ℕ) (e : Refusal) → Err e ≡ done (given (holding m (to_attachment k)) Missing 0) → change (remove_attachment k) m ≡ Err e
  unfolding change ◌>>=◌
  attachment_not_there k e q = rw (lost (given (nth m.attachments k) Missing 0) e q)

  pub attachment_there : (k : ℕ) (u : Unit {0}) → Ok u ≡ done (given (holding m (to_attachment k)) Missing 0)
      → change (remove_attachment k) m ≡ Ok (amended (to_attachments (spec.attachment_removed k)) m)
  unfolding change ◌>>=◌
  attachment_there k u q = let (h, e) = got (given (nth m.attachments k) Missing 0) u q in rw e
