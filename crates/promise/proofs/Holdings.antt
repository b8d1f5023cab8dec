-- What targets hold after one of them is given other contents.
use Rattle.std.proofs.Common.{◌≡◌, ℕ, true, false, not, eqb, List, length, Some, None, Option, sym, refl, ap, ◌∙◌, arith}
use mathlib.Core.Path.{fun_ext}
use Rattle.std.proofs.lemmas.Bool.{both_ways, eqb-true, eqb-false, eq-eqb}
use Rattle.property.specs.Lists.{Property}
use Rattle.stream.specs.Messages.{Message, Holding}
use Rattle.message.specs.declared.Target.{Target}
use Rattle.message.specs.declared.Target.TheVariants.{Message as to_message, Row as to_row, Attachment as to_attachment}
use Rattle.message.specs.Sameness.{nth, row_holding, holding}
use Rattle.message.proofs.Indexing.{WellList}
use Rattle.message.proofs.Laying.{Well, WellAttachment}
use Rattle.editing.specs.Targets.{with_holding, with_properties, target_level}
use Rattle.editing.proofs.Places.{nth_all, nth_there, nth_other, change_length}
use Rattle.editing.proofs.Listed.{KeysApart, keys_apart}
use Rattle.promise.specs.Commuting.{same_target}

-- Targets.
pub same_target_true : (t u : Target) → same_target t u ≡ true → t ≡ u
same_target_true to_message to_message e = refl
same_target_true to_message (to_row r) e = absurd (both_ways false refl e)
same_target_true to_message (to_attachment k) e = absurd (both_ways false refl e)
same_target_true (to_row r) to_message e = absurd (both_ways false refl e)
same_target_true (to_row r) (to_row q) e = ap to_row (eqb-true r q e)
same_target_true (to_row r) (to_attachment k) e = absurd (both_ways false refl e)
same_target_true (to_attachment k) to_message e = absurd (both_ways false refl e)
same_target_true (to_attachment k) (to_row r) e = absurd (both_ways false refl e)
same_target_true (to_attachment k) (to_attachment l) e = ap to_attachment (eqb-true k l e)

pub target_same : (t : Target) → same_target t t ≡ true
target_same to_message = refl
target_same (to_row r) = eq-eqb r r refl
target_same (to_attachment k) = eq-eqb k k refl

-- A row has no attributes.
abbrev pub Room : Target → Holding → Type 0
Room to_message h = Unit {0}
Room (to_row r) h = (i : ℕ) → h.attributes i ≡ None
Room (to_attachment k) h = Unit {0}

pub row_some : (o : Option (List Property)) (h : Holding) → row_holding o ≡ Some h → (ps : List Property) × (o ≡ Some ps) × (record { attributes = λ i. None; properties = ps } ≡ h)
row_some (Some ps) h e = (ps, refl, cc)
row_some None h e = absurd (let z : ◌≡◌ {A = ℕ} 0 1 = cc in omega arith)

pub room_held : (m : Message) (t : Target) (h : Holding) → holding m t ≡ Some h → Room t h
room_held m to_message h e = tt
room_held m (to_row r) h e = let (ps, is, same) = row_some (nth m.rows r) h e in λ i. ap (λ (g : Holding). g.attributes i) (sym same)
room_held m (to_attachment k) h e = tt

pub held_there : (m : Message) (t : Target) (h g : Holding) → holding m t ≡ Some h → Room t g → holding (with_holding m t g) t ≡ Some g
held_there m to_message h g e r = refl
held_there m (to_row k) h g e r =
    let (ps, is, same) = row_some (nth m.rows k) h e in
    ap row_holding (nth_there m.rows k ps g.properties is)
    ∙ ap (λ f. Some (record { attributes = f; properties = g.properties })) (fun_ext (λ i. sym (r i)))
held_there m (to_attachment k) h g e r = nth_there m.attachments k h g e

pub held_other : (m : Message) (t u : Target) (g : Holding) → same_target u t ≡ false → holding (with_holding m t g) u ≡ holding m u
held_other m to_message to_message g e = absurd (both_ways true e refl)
held_other m to_message (to_row q) g e = refl
held_other m to_message (to_attachment l) g e = refl
held_other m (to_row r) to_message g e = refl
held_other m (to_row r) (to_row q) g e = ap row_holding (nth_other m.rows r q g.properties (eqb-false q r e))
held_other m (to_row r) (to_attachment l) g e = refl
held_other m (to_attachment k) to_message g e = refl
held_other m (to_attachment k) (to_row q) g e = refl
held_other m (to_attachment k) (to_attachment l) g e = nth_other m.attachments k l g (eqb-false l k e)

pub rows_kept : (m : Message) (t : Target) (g : Holding) → length (with_holding m t g).rows ≡ length m.rows
rows_kept m to_message g = refl
rows_kept m (to_row r) g = change_length m.rows r g.properties
rows_kept m (to_attachment k) g = refl

pub attachments_kept : (m : Message) (t : Target) (g : Holding) → length (with_holding m t g).attachments ≡ length m.attachments
attachments_kept m to_message g = refl
attachments_kept m (to_row r) g = refl
attachments_kept m (to_attachment k) g = change_length m.attachments k g

pub primary_kept : (m : Message) (t : Target) (g : Holding) → (with_holding m t g).primary ≡ m.primary
primary_kept m to_message g = refl
primary_kept m (to_row r) g = refl
primary_kept m (to_attachment k) g = refl

pub held_apart : (m : Message) (t : Target) (h : Holding) → Well m → holding m t ≡ Some h → KeysApart h.properties
held_apart m to_message h w e = let same : m.own ≡ h = cc in rw (← same) (keys_apart m.own.properties w.own_well.list_well.1)
held_apart m (to_row r) h w e =
    let (ps, is, same) = row_some (nth m.rows r) h e in
    rw (← same) (keys_apart ps (nth_all WellList m.rows r ps w.rows_well is).1)
held_apart m (to_attachment k) h w e = keys_apart h.properties (nth_all WellAttachment m.attachments k h w.attachments_well e).holds.list_well.1

pub room_properties : (t : Target) (h : Holding) (ps : List Property) → Room t h → Room t (with_properties h ps)
room_properties to_message h ps r = tt
room_properties (to_row k) h ps r = r
room_properties (to_attachment k) h ps r = tt

-- Only a row has no level.
pub room_level : (t : Target) (l : ℕ) (h : Holding) → l ≡ target_level t → not (eqb l 0) ≡ true → Room t h
room_level to_message l h e n = tt
room_level (to_row r) l h e n = absurd (both_ways (not (eqb l 0)) (ap (λ k. not (eqb k 0)) e) n)
room_level (to_attachment k) l h e n = tt

pub own_level : (t : Target) (l : ℕ) → l ≡ target_level t → eqb l 1 ≡ true → t ≡ to_message
own_level to_message l e n = refl
own_level (to_row r) l e n = absurd (both_ways (eqb l 1) (ap (λ k. eqb k 1) e) n)
own_level (to_attachment k) l e n = absurd (both_ways (eqb l 1) (ap (λ k. eqb k 1) e) n)
