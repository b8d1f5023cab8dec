-- Frames that stages allow one behind another are frames in order.
use Rattle.std.proofs.Common.{◌≡◌, ℕ, ◌+◌, ◌<◌, ◌≤◌, true, false, ltb, ◌⊎◌, List, [], ◌∷◌, ◌++◌, length, Ok, sym, refl, ap, ◌∙◌, inl, inr, arith}
use Rattle.std.specs.List.{flat_map, AllByRecursion}
use Rattle.std.proofs.lemmas.Bool.{cases_Bool, both_ways, lt-ltb, ltb-true}
use Rattle.source.proofs.Outcomes.{err_not_ok, ok_same}
use Rattle.frame.specs.Stages.{Role, opens, names_page, of_message, begins_attachment, of_attachment, role, next_stage, attachment_limit}
use Rattle.frame.specs.declared.stages.Stage.{Stage}
use Rattle.frame.specs.declared.stages.Stage.TheVariants as stage
use Rattle.message.specs.Grammar.{Laid, Is, Attached, attached, Begun, InOrder}
use Rattle.message.proofs.FrameReads.{Allowed}

-- What leads on from each stage.
step_version : (r : Role) (t : Stage) → next_stage stage.Version r 0 ≡ Ok t → (r ≡ opens) × (t ≡ stage.CodePage)
step_version opens t e = (refl, sym (ok_same _ _ e))
step_version names_page t e = absurd (err_not_ok e)
step_version of_message t e = absurd (err_not_ok e)
step_version begins_attachment t e = absurd (err_not_ok e)
step_version of_attachment t e = absurd (err_not_ok e)

step_page : (r : Role) (t : Stage) → next_stage stage.CodePage r 0 ≡ Ok t → (r ≡ names_page) × (t ≡ stage.Message)
step_page opens t e = absurd (err_not_ok e)
step_page names_page t e = (refl, sym (ok_same _ _ e))
step_page of_message t e = absurd (err_not_ok e)
step_page begins_attachment t e = absurd (err_not_ok e)
step_page of_attachment t e = absurd (err_not_ok e)

step_message : (r : Role) (t : Stage) → next_stage stage.Message r 0 ≡ Ok t → ((r ≡ of_message) × (t ≡ stage.Message)) ⊎ ((r ≡ begins_attachment) × (t ≡ stage.Attachment 1))
step_message opens t e = absurd (err_not_ok e)
step_message names_page t e = absurd (err_not_ok e)
step_message of_message t e = inl (refl, sym (ok_same _ _ e))
step_message begins_attachment t e = inr (refl, sym (ok_same _ _ e))
step_message of_attachment t e = absurd (err_not_ok e)

step_attachment : (k : ℕ) (r : Role) (t : Stage) → next_stage (stage.Attachment k) r 0 ≡ Ok t →
    ((r ≡ of_attachment) × (t ≡ stage.Attachment k)) ⊎ ((r ≡ begins_attachment) × (t ≡ stage.Attachment (k + 1)) × (k < attachment_limit))
step_attachment k opens t e = absurd (err_not_ok e)
step_attachment k names_page t e = absurd (err_not_ok e)
step_attachment k of_message t e = absurd (err_not_ok e)
step_attachment k begins_attachment t e =
    elim (cases_Bool (ltb k attachment_limit)) [
      | inl y ↦ inr (refl, sym (ok_same _ _ (rw y at e)), ltb-true k attachment_limit y)
      | inr n ↦ absurd (err_not_ok (rw n at e))
    ]
step_attachment k of_attachment t e = inl (refl, sym (ok_same _ _ e))

-- Some frames of a role, and attachments.
record Parted (r : Role) (k : ℕ) (fs : List Laid) : Type 0 where
  own : List Laid
  attachments : List Attached
  laid : fs ≡ own ++ flat_map attached attachments
  own_are : AllByRecursion (Is r) own
  attachments_are : AllByRecursion Begun attachments
  few : k + length attachments ≤ attachment_limit

late : (fs : List Laid) (k : ℕ) → k ≤ attachment_limit → Allowed (stage.Attachment k) fs → Parted of_attachment k fs
late [] k i all = record { own = []; attachments = []; laid = refl; own_are = tt; attachments_are = tt; few = omega arith }
late (f ∷ fs) k i (t, go, all) =
    elim (step_attachment k (role f.attribute) t (go 0)) [
      | inl (rl, ts) ↦
          let p : Parted of_attachment k fs = late fs k i (rw ts at all) in
          record { own = f ∷ p.own; attachments = p.attachments; laid = ap (λ l. f ∷ l) p.laid; own_are = (rl, p.own_are); attachments_are = p.attachments_are; few = p.few }
      | inr (rl, ts, less) ↦
          let p : Parted of_attachment (k + 1) fs = late fs (k + 1) (omega arith) (rw ts at all) in
          let few : k + 1 + length p.attachments ≤ attachment_limit = p.few in
          record {
            own = [];
            attachments = record { rendering = f; rest = p.own } ∷ p.attachments;
            laid = ap (λ l. f ∷ l) p.laid;
            own_are = tt;
            attachments_are = ((rl, p.own_are), p.attachments_are);
            few = omega arith;
          }
    ]

early : (fs : List Laid) → Allowed stage.Message fs → Parted of_message 0 fs
early [] all = record { own = []; attachments = []; laid = refl; own_are = tt; attachments_are = tt; few = omega arith }
early (f ∷ fs) (t, go, all) =
    elim (step_message (role f.attribute) t (go 0)) [
      | inl (rl, ts) ↦
          let p : Parted of_message 0 fs = early fs (rw ts at all) in
          record { own = f ∷ p.own; attachments = p.attachments; laid = ap (λ l. f ∷ l) p.laid; own_are = (rl, p.own_are); attachments_are = p.attachments_are; few = p.few }
      | inr (rl, ts) ↦
          let p : Parted of_attachment 1 fs = late fs 1 (omega arith) (rw ts at all) in
          let few : 1 + length p.attachments ≤ attachment_limit = p.few in
          record {
            own = [];
            attachments = record { rendering = f; rest = p.own } ∷ p.attachments;
            laid = ap (λ l. f ∷ l) p.laid;
            own_are = tt;
            attachments_are = ((rl, p.own_are), p.attachments_are);
            few = omega arith;
          }
    ]

pub allowed_ordered : (fs : List Laid) → Allowed stage.Version fs → InOrder fs
allowed_ordered [] all = absurd (both_ways false refl all)
allowed_ordered (v ∷ []) (t, go, all) =
    let (rl, ts) = step_version (role v.attribute) t (go 0) in
    let none : false ≡ true = rw ts at all in
    absurd (both_ways false refl none)
allowed_ordered (v ∷ (c ∷ fs)) (t, go, (u, gu, all)) =
    let (rl, ts) = step_version (role v.attribute) t (go 0) in
    let (rc, us) = step_page (role c.attribute) u (ap (λ s. next_stage s (role c.attribute) 0) (sym ts) ∙ gu 0) in
    let p : Parted of_message 0 fs = early fs (rw us at all) in
    let few : 0 + length p.attachments ≤ attachment_limit = p.few in
    record {
      opening = v;
      page = c;
      own = p.own;
      attachments = p.attachments;
      laid = ap (λ l. v ∷ (c ∷ l)) p.laid;
      opening_is = rl;
      page_is = rc;
      own_are = p.own_are;
      attachments_are = p.attachments_are;
      few = omega arith;
    }

-- And back.
rest_allowed : (k : ℕ) (rest gs : List Laid) → AllByRecursion (Is of_attachment) rest → Allowed (stage.Attachment k) gs → Allowed (stage.Attachment k) (rest ++ gs)
rest_allowed k [] gs a all = all
rest_allowed k (f ∷ rest) gs a all = (stage.Attachment k, (λ p. rw a.0), rest_allowed k rest gs a.1 all)

late_allowed : (hs : List Attached) (k : ℕ) → AllByRecursion Begun hs → k + length hs ≤ attachment_limit → Allowed (stage.Attachment k) (flat_map attached hs)
late_allowed [] k a i = refl
late_allowed (h ∷ hs) k a i =
    (stage.Attachment (k + 1), (λ p. rw (a.0.0, lt-ltb k attachment_limit (omega arith))), rest_allowed (k + 1) h.rest (flat_map attached hs) a.0.1 (late_allowed hs (k + 1) a.1 (omega arith)))

begun_allowed : (hs : List Attached) → AllByRecursion Begun hs → length hs ≤ attachment_limit → Allowed stage.Message (flat_map attached hs)
begun_allowed [] a i = refl
begun_allowed (h ∷ hs) a i = (stage.Attachment 1, (λ p. rw a.0.0), rest_allowed 1 h.rest (flat_map attached hs) a.0.1 (late_allowed hs 1 a.1 (omega arith)))

own_allowed : (own gs : List Laid) → AllByRecursion (Is of_message) own → Allowed stage.Message gs → Allowed stage.Message (own ++ gs)
own_allowed [] gs a all = all
own_allowed (f ∷ own) gs a all = (stage.Message, (λ p. rw a.0), own_allowed own gs a.1 all)

pub ordered_allowed : (fs : List Laid) → InOrder fs → Allowed stage.Version fs
ordered_allowed fs o =
    rw o.laid (
      stage.CodePage,
      (λ p. rw o.opening_is),
      (stage.Message, (λ p. rw o.page_is), own_allowed o.own _ o.own_are (begun_allowed o.attachments o.attachments_are o.few)),
    )
