-- What is known of the entries of a readable stream: their meaning is of the kind that their id has, and those of a
-- target have one level.
use Rattle.std.proofs.Common.{◌≡◌, ℕ, ◌+◌, Bool, true, false, cond, ◌&&◌, eqb, ltb, List, [], ◌∷◌, map, Some, None, Ok, Option, sym, refl, ap, ◌∙◌, inl, inr, arith}
use Rattle.std.specs.List.{AllByRecursion}
use Rattle.std.proofs.lemmas.Bool.{cases_eq, both_ways, eqb-true, eq-eqb, ne_eqb, and_parts}
use Rattle.source.specs.Outcome.{refused}
use Rattle.source.specs.declared.refusals.Reason.TheVariants.{Limit}
use Rattle.source.proofs.Outcomes.{err_not_ok, over_got}
use Rattle.attribute.specs.Table.{attributes, find, attribute_of, rendering_id, version_id, code_page_id}
use Rattle.attribute.specs.declared.Attribute.{Attribute}
use Rattle.attribute.specs.declared.Rule.{Rule}
use Rattle.frame.specs.Stages.{Role, opens, names_page, of_message, begins_attachment, of_attachment, role, next_stage, attachment_limit}
use Rattle.frame.specs.Frames.{next_frame}
use Rattle.frame.specs.declared.Frame.{Frame}
use Rattle.frame.specs.declared.stages.Stage.{Stage}
use Rattle.frame.specs.declared.stages.Stage.TheVariants as stage
use Rattle.contents.specs.Writing.{known}
use Rattle.index.specs.declared.attributes.AttributeRow.{AttributeRow}
use Rattle.stream.specs.Reading.{Meant, version, primary, contents, list, table, Nature, plain, opening, page, rows, properties, nature, meant_as, Entry}
use Rattle.stream.specs.Messages.{message_part}
use Rattle.stream.specs.Writing.{level_in}
use Rattle.form.specs.Targets.{remaining, Readable, own_part, rule_in, row_meant, or_version, row_entry, Standing, frame_row}
use Rattle.form.proofs.Walks.{Stepped, steps, ends}

-- The kind of what data mean, and the kind and the level that an id asks for.
abbrev pub nature_in : Meant → Nature
nature_in version = opening
nature_in (primary n) = page
nature_in (contents c) = plain
nature_in (list ps) = properties
nature_in (table rs) = rows

abbrev pub nature_of : ℕ → Nature
nature_of i = nature (rule_in (attribute_of i))

abbrev pub level_of : ℕ → ℕ
level_of i = level_in (attribute_of i)

abbrev pub Apt : Entry → Type 0
Apt e = nature_in e.meant ≡ nature_of e.id

meant_apt : (n : Nature) (r : Rule) (xs : List ℕ) (base size : ℕ) (m : Meant) → meant_as n r xs base size ≡ Ok m → nature_in m ≡ n
unfolding meant_as
meant_apt plain r xs base size m e = let (_, _, q) = over_got _ _ m (sym e) in rw q
meant_apt opening r xs base size m e = let (_, _, q) = over_got _ _ m (sym e) in rw q
meant_apt page r xs base size m e = let (_, _, q) = over_got _ _ m (sym e) in rw q
meant_apt rows r xs base size m e = let (_, _, q) = over_got _ _ m (sym e) in rw q
meant_apt properties r xs base size m e = let (_, _, q) = over_got _ _ m (sym e) in rw q

pub row_apt : (xs : List ℕ) (r : AttributeRow) → Standing xs r → Apt (row_entry xs r)
unfolding row_entry row_meant
row_apt xs r s = meant_apt (nature_of r.id) (rule_in (attribute_of r.id)) xs r.place r.size (or_version (row_meant xs r)) s.reads

pub rows_apt : (xs : List ℕ) (rs : List AttributeRow) → AllByRecursion (Standing xs) rs → AllByRecursion Apt (map (row_entry xs) rs)
rows_apt xs [] s = tt
rows_apt xs (r ∷ rs) s = (row_apt xs r s.0, rows_apt xs rs s.1)

-- What a test says of every attribute of the table.
abbrev pub every : (Attribute → Bool) → List Attribute → Bool
every t [] = true
every t (a ∷ rest) = t a && every t rest

pub find_every : (t : Attribute → Bool) (all : List Attribute) (i : ℕ) (a : Attribute) → every t all ≡ true → find all i ≡ Some a → t a ≡ true
find_every t [] i a h e = let z : ◌≡◌ {A = ℕ} 0 1 = cc in absurd (omega arith)
find_every t (b ∷ rest) i a h e = elim (cases_eq b.id i) [
  | inl d ↦
      let f : Some b ≡ Some a = rw (eq-eqb b.id i d) at e in
      let q : b ≡ a = cc in
      rw (← q) (and_parts (t b) (every t rest) h).0
  | inr n ↦ find_every t rest i a (and_parts (t b) (every t rest) h).1 (rw (ne_eqb b.id i n) at e)
]

-- The side of a stream that a stage and a role stand on: 1 for the message, 2 for attachments.
abbrev pub side : Stage → ℕ
side stage.Version = 1
side stage.CodePage = 1
side stage.Message = 1
side (stage.Attachment k) = 2

abbrev role_side : Role → ℕ
role_side opens = 1
role_side names_page = 1
role_side of_message = 1
role_side begins_attachment = 2
role_side of_attachment = 2

abbrev begins : Role → Bool
begins opens = false
begins names_page = false
begins of_message = false
begins begins_attachment = true
begins of_attachment = false

limited : (b : Bool) (k p : ℕ) (t : Stage) → cond b (Ok (stage.Attachment (k + 1))) (refused Limit p) ≡ Ok t → side t ≡ 2
limited true k p t e = let q : stage.Attachment (k + 1) ≡ t = cc in rw (← q)
limited false k p t e = absurd (err_not_ok e)

turned : (s : Stage) (ρ : Role) (p : ℕ) (t : Stage) → next_stage s ρ p ≡ Ok t → (side t ≡ role_side ρ) × (begins ρ ≡ false → side t ≡ side s)
turned stage.Version opens p t e = let q : stage.CodePage ≡ t = cc in rw (← q) (refl, λ _. refl)
turned stage.Version names_page p t e = absurd (err_not_ok e)
turned stage.Version of_message p t e = absurd (err_not_ok e)
turned stage.Version begins_attachment p t e = absurd (err_not_ok e)
turned stage.Version of_attachment p t e = absurd (err_not_ok e)
turned stage.CodePage opens p t e = absurd (err_not_ok e)
turned stage.CodePage names_page p t e = let q : stage.Message ≡ t = cc in rw (← q) (refl, λ _. refl)
turned stage.CodePage of_message p t e = absurd (err_not_ok e)
turned stage.CodePage begins_attachment p t e = absurd (err_not_ok e)
turned stage.CodePage of_attachment p t e = absurd (err_not_ok e)
turned stage.Message opens p t e = absurd (err_not_ok e)
turned stage.Message names_page p t e = absurd (err_not_ok e)
turned stage.Message of_message p t e = let q : stage.Message ≡ t = cc in rw (← q) (refl, λ _. refl)
turned stage.Message begins_attachment p t e = let q : stage.Attachment 1 ≡ t = cc in rw (← q) (refl, λ n. absurd (both_ways true n refl))
turned stage.Message of_attachment p t e = absurd (err_not_ok e)
turned (stage.Attachment k) opens p t e = absurd (err_not_ok e)
turned (stage.Attachment k) names_page p t e = absurd (err_not_ok e)
turned (stage.Attachment k) of_message p t e = absurd (err_not_ok e)
turned (stage.Attachment k) begins_attachment p t e = (limited (ltb k attachment_limit) k p t e, λ n. absurd (both_ways true n refl))
turned (stage.Attachment k) of_attachment p t e = let q : stage.Attachment k ≡ t = cc in rw (← q) (refl, λ _. refl)

-- Facts of the table.
levels_test : Attribute → Bool
levels_test a = eqb a.level (role_side (role a))

level_role : (i : ℕ) (a : Attribute) → attribute_of i ≡ Some a → a.level ≡ role_side (role a)
unfolding attribute_of levels_test
level_role i a e = eqb-true a.level (role_side (role a)) (find_every levels_test attributes i a refl e)

begins_by : (x y z : Bool) → begins (cond x opens (cond y names_page (cond z of_message of_attachment))) ≡ false
begins_by true y z = refl
begins_by false true z = refl
begins_by false false true = refl
begins_by false false false = refl

not_begun : (a : Attribute) → (a.id ≡ rendering_id → ⊥) → begins (role a) ≡ false
not_begun a n = rw (ne_eqb a.id rendering_id n) (begins_by (eqb a.id version_id) (eqb a.id code_page_id) (eqb a.level 1))

-- The first entry of a readable stream, and the frame that it is of.
module _ (xs : List ℕ) where
  split : (p : ℕ) (s : Stage) (e : Entry) (es : List Entry) → Readable xs p s → remaining xs p s ≡ e ∷ es
      → (f : Frame) × Stepped xs p s f × (e ≡ row_entry xs (frame_row f)) × (es ≡ remaining xs f.next f.stage)
  split p s e es g h = by_next (known (next_frame xs p s)) refl
    where
      by_next : (o : Option Frame) → known (next_frame xs p s) ≡ o
          → (f : Frame) × Stepped xs p s f × (e ≡ row_entry xs (frame_row f)) × (es ≡ remaining xs f.next f.stage)
      by_next None o =
          let n : e ∷ es ≡ [] = sym h ∙ (ends xs p s g o).0 in
          let z : ◌≡◌ {A = ℕ} 0 1 = cc in
          absurd (omega arith)
      by_next (Some f) o =
          let k = steps xs p s g f o in
          let q : e ∷ es ≡ row_entry xs (frame_row f) ∷ remaining xs f.next f.stage = sym h ∙ k.more in
          (f, k, cc, cc)

  pub all_apt : (es : List Entry) (p : ℕ) (s : Stage) → Readable xs p s → remaining xs p s ≡ es → AllByRecursion Apt es
  all_apt [] p s g h = tt
  all_apt (e ∷ es) p s g h =
      let (f, k, a, b) = split p s e es g h in
      (rw a (row_apt xs (frame_row f) k.row), all_apt es f.next f.stage k.after (sym b))

  -- A frame stands at the level of the stage behind it.
  frame_level : (p : ℕ) (s : Stage) (f : Frame) → Stepped xs p s f
      → (level_of f.attribute.id ≡ side f.stage) × ((f.attribute.id ≡ rendering_id → ⊥) → side f.stage ≡ side s)
  frame_level p s f k =
      let (a, b) = turned s (role f.attribute) p f.stage k.placed.turn in
      (ap level_in k.placed.known ∙ level_role f.attribute.id f.attribute k.placed.known ∙ sym a, λ n. b (not_begun f.attribute n))

  levels_on : (es : List Entry) (p : ℕ) (s : Stage) → Readable xs p s → remaining xs p s ≡ es → AllByRecursion (λ e. level_of e.id ≡ side s) (message_part es)
  unfolding message_part row_entry
  levels_on [] p s g h = tt
  levels_on (e ∷ es) p s g h =
      let (f, k, a, b) = split p s e es g h in
      let (l, m) = frame_level p s f k in
      elim (cases_eq e.id rendering_id) [
        | inl d ↦ rw (eq-eqb e.id rendering_id d) tt
        | inr n ↦
            let i : e.id ≡ f.attribute.id = ap (λ x. x.id) a in
            let t = m (λ d. n (i ∙ d)) in
            let rest = levels_on es f.next f.stage k.after (sym b) in
            rw (ne_eqb e.id rendering_id n) (ap level_of i ∙ l ∙ t, rw t at rest)
      ]

  -- The entries of a target have the level of the first.
  pub own_levels : (p : ℕ) (s : Stage) (e : Entry) (es : List Entry) → Readable xs p s → remaining xs p s ≡ e ∷ es
      → AllByRecursion (λ x. level_of x.id ≡ level_of e.id) (own_part (e ∷ es))
  unfolding own_part row_entry
  own_levels p s e es g h =
      let (f, k, a, b) = split p s e es g h in
      let i : e.id ≡ f.attribute.id = ap (λ x. x.id) a in
      let t : side f.stage ≡ level_of e.id = sym (ap level_of i ∙ (frame_level p s f k).0) in
      let rest = levels_on es f.next f.stage k.after (sym b) in
      (refl, rw t at rest)
