-- How a readable stream begins, and the parts of its entries.
use Rattle.std.proofs.Common.{◌≡◌, ℕ, ◌<◌, ◌≤◌, Bool, true, false, cond, eqb, List, [], ◌∷◌, ◌++◌, map, length, Some, None, Ok, Option, refl, ap, ◌∙◌, inl, inr, arith}
use Rattle.std.specs.List.{flat_map, AllByRecursion}
use Rattle.std.proofs.lemmas.Bool.{cases_eq, both_ways, eqb-true, eq-eqb, ne_eqb}
use Rattle.source.proofs.Outcomes.{err_not_ok}
use Rattle.attribute.specs.Table.{attribute_of, rendering_id, version_id, code_page_id}
use Rattle.attribute.specs.declared.Attribute.{Attribute}
use Rattle.frame.specs.Stages.{Role, opens, names_page, of_message, begins_attachment, of_attachment, role, next_stage, may_end}
use Rattle.frame.specs.Frames.{next_frame}
use Rattle.frame.specs.declared.Frame.{Frame}
use Rattle.frame.specs.declared.stages.Stage.{Stage}
use Rattle.frame.specs.declared.stages.Stage.TheVariants as stage
use Rattle.contents.specs.Writing.{known}
use Rattle.index.specs.declared.attributes.AttributeRow.{AttributeRow}
use Rattle.stream.specs.Reading.{Meant, version, primary, contents, list, table, opening, page, Entry}
use Rattle.stream.specs.Messages.{holding_of, message_part, attachment_parts}
use Rattle.stream.specs.Writing.{write_entry, attachment_entries}
use Rattle.form.specs.Targets.{remaining, Readable, own_part, later_part, past_part, row_entry, frame_row, Taken}
use Rattle.form.specs.Holdings.{attachment_bytes}
use Rattle.form.specs.Wholes.{Rendered, attached, all_attached}
use Rattle.form.proofs.Walks.{Stepped, steps, ends}
use Rattle.form.proofs.Natures.{nature_in, nature_of, level_of, Apt, row_apt, all_apt, own_levels}
use Rattle.form.proofs.Holds.{joined_append}
use Rattle.form.proofs.Tells.{own_all, attachment_same}

opening_only : (m : Meant) → nature_in m ≡ opening → m ≡ version
opening_only version e = refl
opening_only (primary n) e = let z : ◌≡◌ {A = ℕ} 0 1 = cc in absurd (omega arith)
opening_only (contents c) e = let z : ◌≡◌ {A = ℕ} 0 1 = cc in absurd (omega arith)
opening_only (list ps) e = let z : ◌≡◌ {A = ℕ} 0 1 = cc in absurd (omega arith)
opening_only (table rs) e = let z : ◌≡◌ {A = ℕ} 0 1 = cc in absurd (omega arith)

page_only : (m : Meant) → nature_in m ≡ page → (n : ℕ) × (m ≡ primary n)
page_only (primary n) e = (n, refl)
page_only version e = let z : ◌≡◌ {A = ℕ} 0 1 = cc in absurd (omega arith)
page_only (contents c) e = let z : ◌≡◌ {A = ℕ} 0 1 = cc in absurd (omega arith)
page_only (list ps) e = let z : ◌≡◌ {A = ℕ} 0 1 = cc in absurd (omega arith)
page_only (table rs) e = let z : ◌≡◌ {A = ℕ} 0 1 = cc in absurd (omega arith)

-- What may stand at the first two stages.
first_turn : (ρ : Role) (p : ℕ) (t : Stage) → next_stage stage.Version ρ p ≡ Ok t → (ρ ≡ opens) × (t ≡ stage.CodePage)
first_turn opens p t e = (refl, cc)
first_turn names_page p t e = absurd (err_not_ok e)
first_turn of_message p t e = absurd (err_not_ok e)
first_turn begins_attachment p t e = absurd (err_not_ok e)
first_turn of_attachment p t e = absurd (err_not_ok e)

second_turn : (ρ : Role) (p : ℕ) (t : Stage) → next_stage stage.CodePage ρ p ≡ Ok t → ρ ≡ names_page
second_turn names_page p t e = refl
second_turn opens p t e = absurd (err_not_ok e)
second_turn of_message p t e = absurd (err_not_ok e)
second_turn begins_attachment p t e = absurd (err_not_ok e)
second_turn of_attachment p t e = absurd (err_not_ok e)

-- How a role comes about.
by_opens : (x y z w : Bool) → cond x opens (cond y names_page (cond z begins_attachment (cond w of_message of_attachment))) ≡ opens → x ≡ true
by_opens true y z w e = refl
by_opens false true z w e = let t : ◌≡◌ {A = ℕ} 0 1 = cc in absurd (omega arith)
by_opens false false true w e = let t : ◌≡◌ {A = ℕ} 0 1 = cc in absurd (omega arith)
by_opens false false false true e = let t : ◌≡◌ {A = ℕ} 0 1 = cc in absurd (omega arith)
by_opens false false false false e = let t : ◌≡◌ {A = ℕ} 0 1 = cc in absurd (omega arith)

by_page : (x y z w : Bool) → cond x opens (cond y names_page (cond z begins_attachment (cond w of_message of_attachment))) ≡ names_page → y ≡ true
by_page true y z w e = let t : ◌≡◌ {A = ℕ} 0 1 = cc in absurd (omega arith)
by_page false true z w e = refl
by_page false false true w e = let t : ◌≡◌ {A = ℕ} 0 1 = cc in absurd (omega arith)
by_page false false false true e = let t : ◌≡◌ {A = ℕ} 0 1 = cc in absurd (omega arith)
by_page false false false false e = let t : ◌≡◌ {A = ℕ} 0 1 = cc in absurd (omega arith)

role_opens : (a : Attribute) → role a ≡ opens → a.id ≡ version_id
role_opens a e = eqb-true a.id version_id (by_opens (eqb a.id version_id) (eqb a.id code_page_id) (eqb a.id rendering_id) (eqb a.level 1) e)

role_page : (a : Attribute) → role a ≡ names_page → a.id ≡ code_page_id
role_page a e = eqb-true a.id code_page_id (by_page (eqb a.id version_id) (eqb a.id code_page_id) (eqb a.id rendering_id) (eqb a.level 1) e)

-- A stream that does not end here has another frame.
pub goes_on : (xs : List ℕ) (p : ℕ) (s : Stage) → Readable xs p s → (p ≡ length xs → may_end s ≡ true → ⊥) → (f : Frame) × Stepped xs p s f
goes_on xs p s g n = by_next (known (next_frame xs p s)) refl
  where
    by_next : (o : Option Frame) → known (next_frame xs p s) ≡ o → (f : Frame) × Stepped xs p s f
    by_next None o = let (_, l, m) = ends xs p s g o in absurd (n l m)
    by_next (Some f) o = (f, steps xs p s g f o)

entry_is : (e : Entry) (i : ℕ) (m : Meant) → e.id ≡ i → e.meant ≡ m → e ≡ record { id = i; meant = m }
entry_is e i m a b = rw (← a, ← b)

version_nature : nature_of version_id ≡ opening
unfolding attribute_of
version_nature = refl

page_nature : nature_of code_page_id ≡ page
unfolding attribute_of
page_nature = refl

-- A stream begins with its version and its code page.
pub begins : (xs : List ℕ) → Readable xs 6 stage.Version
    → (n : ℕ) × (es : List Entry) × (remaining xs 6 stage.Version ≡ record { id = version_id; meant = version } ∷ (record { id = code_page_id; meant = primary n } ∷ es))
unfolding row_entry
begins xs g =
    let (f, k) = goes_on xs 6 stage.Version g (λ l m. both_ways false refl m) in
    let (a, b) = first_turn (role f.attribute) 6 f.stage k.placed.turn in
    let i = role_opens f.attribute a in
    let v = opening_only _ (row_apt xs (frame_row f) k.row ∙ ap nature_of i ∙ version_nature) in
    let h : Readable xs f.next stage.CodePage = rw b at k.after in
    let (t, j) = goes_on xs f.next stage.CodePage h (λ l m. both_ways false refl m) in
    let r = role_page t.attribute (second_turn (role t.attribute) f.next t.stage j.placed.turn) in
    let (n, w) = page_only _ (row_apt xs (frame_row t) j.row ∙ ap nature_of r ∙ page_nature) in
    let first : row_entry xs (frame_row f) ≡ record { id = version_id; meant = version } = entry_is _ _ _ i v in
    let second : row_entry xs (frame_row t) ≡ record { id = code_page_id; meant = primary n } = entry_is _ _ _ r w in
    let rest : remaining xs f.next f.stage ≡ record { id = code_page_id; meant = primary n } ∷ remaining xs t.next t.stage
    = ap (remaining xs f.next) b ∙ j.more ∙ ap (λ e. e ∷ remaining xs t.next t.stage) second in
    (n, remaining xs t.next t.stage, k.more ∙ ap (λ e. e ∷ remaining xs f.next f.stage) first ∙ ap (λ l. record { id = version_id; meant = version } ∷ l) rest)

-- The attachments stand behind the next rendering.
pub later_parts : (es : List Entry) → attachment_parts (later_part es) ≡ attachment_parts es
unfolding later_part attachment_parts
later_parts [] = refl
later_parts (e ∷ es) = elim (cases_eq e.id rendering_id) [
  | inl d ↦ rw (eq-eqb e.id rendering_id d) (rw (eq-eqb e.id rendering_id d))
  | inr n ↦ rw (ne_eqb e.id rendering_id n) (later_parts es)
]

later_rendered : (es : List Entry) → Rendered (later_part es)
unfolding later_part
later_rendered [] = tt
later_rendered (e ∷ es) = elim (cases_eq e.id rendering_id) [
  | inl d ↦ rw (eq-eqb e.id rendering_id d) d
  | inr n ↦ rw (ne_eqb e.id rendering_id n) (later_rendered es)
]

pub past_rendered : (es : List Entry) → Rendered (past_part es)
unfolding past_part
past_rendered [] = tt
past_rendered (e ∷ es) = later_rendered es

pub attached_cons : (e : Entry) (es : List Entry) → e.id ≡ rendering_id → all_attached (e ∷ es) ≡ attached (own_part (e ∷ es)) ++ all_attached (past_part (e ∷ es))
unfolding all_attached attached own_part past_part attachment_parts
attached_cons e es d =
    rw (eq-eqb e.id rendering_id d, later_parts es)
    (joined_append write_entry (attachment_entries (holding_of (e ∷ message_part es))) (flat_map attachment_entries (map holding_of (attachment_parts es))))

pub attached_none : all_attached [] ≡ []
unfolding all_attached attachment_parts
attached_none = refl

-- One attachment more.
module _ (xs : List ℕ) (p : ℕ) (s : Stage) (g : Readable xs p s) where
  pub none_left : length xs ≤ p → all_attached (remaining xs p s) ≡ []
  none_left h = by_next (known (next_frame xs p s)) refl
    where
      by_next : (o : Option Frame) → known (next_frame xs p s) ≡ o → all_attached (remaining xs p s) ≡ []
      by_next None o = ap all_attached (ends xs p s g o).0 ∙ attached_none
      by_next (Some f) o = let k = (steps xs p s g f o).stands in absurd (omega (arith, k.next, k.within))

  module _ (r : Rendered (remaining xs p s)) (h : p < length xs) where
    pub head : (e : Entry) × (es : List Entry) × (remaining xs p s ≡ e ∷ es) × (e.id ≡ rendering_id)
    head =
        let (f, k) = goes_on xs p s g (λ l m. omega arith) in
        let q : Rendered (row_entry xs (frame_row f) ∷ remaining xs f.next f.stage) = rw k.more at r in
        (row_entry xs (frame_row f), remaining xs f.next f.stage, k.more, q)

    pub attached_more : (q : ℕ) (t : Stage) → remaining xs q t ≡ past_part (remaining xs p s)
        → all_attached (remaining xs p s) ≡ attached (own_part (remaining xs p s)) ++ all_attached (remaining xs q t)
    attached_more q t r = let (e, es, m, d) = head in rw r (rw m (attached_cons e es d))

    pub rendering_level : level_of rendering_id ≡ 2
    unfolding attribute_of
    rendering_level = refl

    pub next_attached : (rows : List AttributeRow) (q : ℕ) (t : Stage) → Taken xs p s rows q t → attachment_bytes xs rows ≡ attached (own_part (remaining xs p s))
    unfolding attached
    next_attached rows q t k =
        let (e, es, m, d) = head in
        let level = own_levels xs p s e es g m in
        let two : level_of e.id ≡ 2 = ap level_of d ∙ rendering_level in
        let l : AllByRecursion (λ x. level_of x.id ≡ 2) (own_part (e ∷ es)) = rw two at level in
        attachment_same xs (own_part (remaining xs p s)) rows k.gathered (own_all Apt _ (all_apt xs _ p s g refl)) (rw m l)
