-- Frames and streams: what the grammar tells is what is read.
use Rattle.std.proofs.Common.{◌≡◌, ℕ, zero, suc, ◌+◌, ◌-◌, ◌<◌, ◌≤◌, Bool, true, false, ◌&&◌, ◌||◌, eqb, ltb, leb, ◌⊎◌, List, [], ◌∷◌, ◌++◌, map, length, get_or, take, drop, Some, None, Ok, Err, Option, sym, refl, ap, ◌∙◌, inl, inr, add_assoc, arith}
use Rattle.std.specs.List.{AllByRecursion}
use Rattle.std.proofs.lemmas.List.{append_assoc, length-append, length-drop, drop-drop, drop_all, drop_more, take-append-drop}
use Rattle.std.proofs.lemmas.Bool.{eqb-true, eq-eqb, ne_eqb, and_parts, cases_Bool, both_ways, le-leb, leb-true, lt-ltb, ltb-true}
use Rattle.source.specs.declared.refusals.Refusal.{Refusal}
use Rattle.source.specs.Bytes.{val, part}
use Rattle.source.specs.Outcome.{Outcome, ◌>>=◌, ◌>>◌}
use Rattle.scan.specs.Scans.{checksum}
use Rattle.scan.proofs.Numbers.{length_part}
use Rattle.attribute.specs.Table.{attribute_of, attributes, find}
use Rattle.attribute.specs.declared.Attribute.{Attribute}
use Rattle.attribute.specs.declared.Rule.{Rule}
use Rattle.frame.specs.Frames.{head_at, head_judged, is_class, sum_judged, frame_at, next_frame}
use Rattle.frame.specs.Stages.{Role, opens, names_page, of_message, begins_attachment, of_attachment, role, next_stage, may_end, attachment_limit}
use Rattle.frame.specs.declared.Frame.{Frame}
use Rattle.frame.specs.declared.stages.Stage.{Stage}
use Rattle.frame.specs.declared.stages.Stage.TheVariants as stage
use Rattle.stream.specs.Reading.{Meant, Entry, Nature, plain, opening, page, rows, properties, nature, meant_as, meant_at, entries_from, entries_at}
use Rattle.message.specs.Grammar.{◌▷◌, run, DataMean, Laid, frame_bytes, Right}
use Rattle.message.proofs.Pieces.{drop_behind, part_left, part_split, get_or_left}
use Rattle.message.proofs.Outcomes.{bind_ok, given_ok, over_ok}
use Rattle.source.proofs.Outcomes.{err_not_ok, ok_same}
use Rattle.message.proofs.PropertyReads.{list_told, table_told}

-- A frame by its id and what it means.
abbrev pub entry : Laid → Entry
entry f = record { id = f.attribute.id; meant = f.meant }

-- What data mean.
meant_back : (n : Nature) (r : Rule) (xs : List ℕ) (base size : ℕ) (m : Meant) → base + size ≤ length xs → DataMean n r (part xs base size) m → meant_as n r xs base size ≡ Ok m
unfolding meant_as
meant_back plain r xs base size m fits (c, is, same) = rw (is, same)
meant_back opening r xs base size m fits (c, is, same) = rw (is, same)
meant_back page r xs base size m fits (c, is, same) = rw (is, same)
meant_back rows r xs base size m fits (rs, is, same) = rw ((table_told xs base size rs fits).1 is, same)
meant_back properties r xs base size m fits (ps, is, same) = rw ((list_told xs base size ps fits).1 is, same)

meant_gives : (n : Nature) (r : Rule) (xs : List ℕ) (base size : ℕ) (m : Meant) → base + size ≤ length xs → meant_as n r xs base size ≡ Ok m → DataMean n r (part xs base size) m
unfolding meant_as
meant_gives plain r xs base size m fits e = let (c, is, same) = over_ok _ _ _ e in (c, given_ok _ _ _ _ is, sym same)
meant_gives opening r xs base size m fits e = let (c, is, same) = over_ok _ _ _ e in (c, given_ok _ _ _ _ is, sym same)
meant_gives page r xs base size m fits e = let (c, is, same) = over_ok _ _ _ e in (c, given_ok _ _ _ _ is, sym same)
meant_gives rows r xs base size m fits e = let (rs, is, same) = over_ok _ _ _ e in (rs, (table_told xs base size rs fits).0 is, sym same)
meant_gives properties r xs base size m fits e = let (ps, is, same) = over_ok _ _ _ e in (ps, (list_told xs base size ps fits).0 is, sym same)

-- A checksum that is compared but for classes.
sum_tested : (b : Bool) (m n : ℕ) → (b ≡ false → m ≡ n) → (b || eqb m n) ≡ true
sum_tested true m n h = refl
sum_tested false m n h = eq-eqb m n (h refl)

sum_told : (b : Bool) (m n : ℕ) → (b || eqb m n) ≡ true → b ≡ false → m ≡ n
sum_told true m n e no' = absurd (both_ways true no' refl)
sum_told false m n e no' = eqb-true m n e

-- What stands at p, where a frame is laid.
record Stands (xs : List ℕ) (p : ℕ) (f : Laid) (bs : List ℕ) : Type 0 where
  level_is : get_or xs p 0 ≡ f.attribute.level
  id_is : val (part xs (p + 1) 4) ≡ f.attribute.id
  size_is : val (part xs (p + 5) 4) ≡ length f.bytes
  data_is : part xs (p + 9) (length f.bytes) ≡ f.bytes
  sum_is : val (part xs (p + 9 + length f.bytes) 2) ≡ f.sum
  long : length bs ≡ length f.bytes + 11
  room : p + length bs ≤ length xs

stands : (xs : List ℕ) (p : ℕ) (f : Laid) (bs rest : List ℕ) → frame_bytes f bs → drop p xs ≡ bs ++ rest → p ≤ length xs → Stands xs p f bs
stands xs p f bs rest w e i =
    let w₂ = w.other in
    let w₃ = w₂.other in
    let w₄ = w₃.other in
    let a = w.front in
    let b = w₂.front in
    let c = w₃.front in
    let d = w₄.front in
    let k = w₄.back in
    let whole : bs ≡ a ++ (b ++ (c ++ (d ++ k))) = w.joins ∙ ap (λ l. a ++ l) (w₂.joins ∙ ap (λ l. b ++ l) (w₃.joins ∙ ap (λ l. c ++ l) w₄.joins)) in
    let e₁ : drop p xs ≡ a ++ (b ++ (c ++ (d ++ (k ++ rest)))) = e ∙ ap (λ l. l ++ rest) whole ∙ simp append_assoc in
    let e₂ : drop p xs ≡ (a ++ b) ++ (c ++ (d ++ (k ++ rest))) = e₁ ∙ sym (append_assoc a b _) in
    let e₃ : drop p xs ≡ ((a ++ b) ++ c) ++ (d ++ (k ++ rest)) = e₂ ∙ sym (append_assoc (a ++ b) c _) in
    let e₄ : drop p xs ≡ (((a ++ b) ++ c) ++ d) ++ (k ++ rest) = e₃ ∙ sym (append_assoc ((a ++ b) ++ c) d _) in
    let la : length a ≡ 1 = ap length w.one in
    let lb : length b ≡ 4 = w₂.one.0 in
    let lc : length c ≡ 4 = w₃.one.0 in
    let ld : length d ≡ length f.bytes = ap length w₄.one in
    let lk : length k ≡ 2 = w₄.other.0 in
    let l₂ : length (a ++ b) ≡ 5 = length-append a b ∙ omega arith in
    let l₃ : length ((a ++ b) ++ c) ≡ 9 = length-append (a ++ b) c ∙ omega arith in
    let l₄ : length (((a ++ b) ++ c) ++ d) ≡ 9 + length f.bytes = length-append ((a ++ b) ++ c) d ∙ omega arith in
    let size : length bs ≡ length f.bytes + 11 = ap length whole ∙ simp length-append (omega arith) in
    let over_all : length xs - p ≡ length bs + length rest = simp (length-drop, length-append) at (ap length e) in
    record {
      level_is = get_or_left xs p f.attribute.level _ (e₁ ∙ ap (λ l. l ++ (b ++ (c ++ (d ++ (k ++ rest))))) w.one);
      id_is = ap val (part_left xs a b _ p 1 4 e₁ la lb) ∙ w₂.one.1;
      size_is = ap val (part_left xs (a ++ b) c _ p 5 4 e₂ l₂ lc) ∙ w₃.one.1;
      data_is = part_left xs ((a ++ b) ++ c) d _ p 9 (length f.bytes) e₃ l₃ ld ∙ w₄.one;
      sum_is = ap (λ q. val (part xs q 2)) (add_assoc p 9 (length f.bytes)) ∙ ap val (part_left xs (((a ++ b) ++ c) ++ d) k rest p (9 + length f.bytes) 2 e₄ l₄ lk) ∙ w₄.other.1;
      long = size;
      room = omega arith;
    }

abbrev framed : ℕ → Laid → Stage → ℕ → Frame
framed p f t n = record { place = p; attribute = f.attribute; size = length f.bytes; checksum = f.sum; stage = t; next = n }

frame_back : (xs : List ℕ) (p : ℕ) (s t : Stage) (f : Laid) (bs : List ℕ) → Stands xs p f bs → Right f → next_stage s (role f.attribute) p ≡ Ok t →
    frame_at xs p s ≡ Ok (framed p f t (p + length bs))
unfolding frame_at head_at head_judged sum_judged ◌>>=◌ ◌>>◌
frame_back xs p s t f bs st ok go =
    let long : length bs ≡ length f.bytes + 11 = st.long in
    let room : p + length bs ≤ length xs = st.room in
    let short : length f.bytes < 0x80000000 = ok.short in
    let next : p + 9 + length f.bytes + 2 ≡ p + length bs = omega arith in
    rw (
      le-leb (p + 9) (length xs) (omega arith),
      st.id_is,
      ok.known,
      st.level_is,
      eq-eqb f.attribute.level f.attribute.level refl,
      go,
      st.size_is,
      lt-ltb (length f.bytes) 0x80000000 short,
      le-leb (p + 9 + length f.bytes + 2) (length xs) (omega arith),
      st.sum_is,
      st.data_is,
      sum_tested (is_class f.attribute.rule) f.sum (checksum f.bytes) ok.sum_right,
      next,
    )

meant_at_back : (xs : List ℕ) (p : ℕ) (t : Stage) (f : Laid) (bs : List ℕ) → Stands xs p f bs → Right f → meant_at xs (framed p f t (p + length bs)) ≡ Ok f.meant
meant_at_back xs p t f bs st ok =
    let long : length bs ≡ length f.bytes + 11 = st.long in
    let room : p + length bs ≤ length xs = st.room in
    meant_back (nature f.attribute.rule) f.attribute.rule xs (p + 9) (length f.bytes) f.meant (omega arith) (rw st.data_is ok.admitted)

-- Frames that may stand one behind another, from a stage on.
abbrev pub Allowed : Stage → List Laid → Type 0
Allowed s [] = may_end s ≡ true
Allowed s (f ∷ fs) = (t : Stage) × ((p : ℕ) → next_stage s (role f.attribute) p ≡ Ok t) × Allowed t fs

pub entries_back : (fs : List Laid) (fuel : ℕ) (xs : List ℕ) (p : ℕ) (s : Stage) → AllByRecursion Right fs → Allowed s fs → run frame_bytes fs (drop p xs) → p ≤ length xs → length xs < p + fuel → entries_at fuel xs p s ≡ Ok (map entry fs)
unfolding entries_at entries_from next_frame ◌>>=◌
entries_back fs zero xs p s ok all w i h = absurd (omega arith)
entries_back [] (suc fuel) xs p s ok all w i h =
    let long : length xs - p ≡ 0 = simp length-drop at (ap length w) in
    rw (eq-eqb p (length xs) (omega arith), all)
entries_back (f ∷ fs) (suc fuel) xs p s ok (t, go, rest) w i h =
    let st : Stands xs p f w.front = stands xs p f w.front w.back w.one w.joins i in
    let long : length w.front ≡ length f.bytes + 11 = st.long in
    let room : p + length w.front ≤ length xs = st.room in
    let behind : drop (p + length w.front) xs ≡ w.back = drop_behind w.front w.back xs p w.joins in
    rw (
      ne_eqb p (length xs) (λ q. omega arith),
      frame_back xs p s t f w.front st ok.0 (go p),
      meant_at_back xs p t f w.front st ok.0,
      entries_back fs fuel xs (p + length w.front) t ok.1 rest (rw behind w.other) room (omega arith),
    )

-- What was read stands so.
next_anywhere : (s : Stage) (r : Role) (p : ℕ) (t : Stage) → next_stage s r p ≡ Ok t → (q : ℕ) → next_stage s r q ≡ Ok t
next_anywhere stage.Version opens p t e q = e
next_anywhere stage.Version names_page p t e q = absurd (let z : ◌≡◌ {A = ℕ} 0 1 = cc in omega arith)
next_anywhere stage.Version of_message p t e q = absurd (let z : ◌≡◌ {A = ℕ} 0 1 = cc in omega arith)
next_anywhere stage.Version begins_attachment p t e q = absurd (let z : ◌≡◌ {A = ℕ} 0 1 = cc in omega arith)
next_anywhere stage.Version of_attachment p t e q = absurd (let z : ◌≡◌ {A = ℕ} 0 1 = cc in omega arith)
next_anywhere stage.CodePage opens p t e q = absurd (let z : ◌≡◌ {A = ℕ} 0 1 = cc in omega arith)
next_anywhere stage.CodePage names_page p t e q = e
next_anywhere stage.CodePage of_message p t e q = absurd (let z : ◌≡◌ {A = ℕ} 0 1 = cc in omega arith)
next_anywhere stage.CodePage begins_attachment p t e q = absurd (let z : ◌≡◌ {A = ℕ} 0 1 = cc in omega arith)
next_anywhere stage.CodePage of_attachment p t e q = absurd (let z : ◌≡◌ {A = ℕ} 0 1 = cc in omega arith)
next_anywhere stage.Message opens p t e q = absurd (let z : ◌≡◌ {A = ℕ} 0 1 = cc in omega arith)
next_anywhere stage.Message names_page p t e q = absurd (let z : ◌≡◌ {A = ℕ} 0 1 = cc in omega arith)
next_anywhere stage.Message of_message p t e q = e
next_anywhere stage.Message begins_attachment p t e q = e
next_anywhere stage.Message of_attachment p t e q = absurd (let z : ◌≡◌ {A = ℕ} 0 1 = cc in omega arith)
next_anywhere (stage.Attachment k) opens p t e q = absurd (let z : ◌≡◌ {A = ℕ} 0 1 = cc in omega arith)
next_anywhere (stage.Attachment k) names_page p t e q = absurd (let z : ◌≡◌ {A = ℕ} 0 1 = cc in omega arith)
next_anywhere (stage.Attachment k) of_message p t e q = absurd (let z : ◌≡◌ {A = ℕ} 0 1 = cc in omega arith)
next_anywhere (stage.Attachment k) begins_attachment p t e q =
    elim (cases_Bool (ltb k attachment_limit)) [
      | inl y ↦ rw y (rw y at e)
      | inr n ↦ absurd (let none : ◌≡◌ {A = Outcome Stage} (Err _) (Ok t) = rw n at e in let z : ◌≡◌ {A = ℕ} 0 1 = cc in omega arith)
    ]
next_anywhere (stage.Attachment k) of_attachment p t e q = e

-- What a frame that was read is.
record Was (xs : List ℕ) (p : ℕ) (s : Stage) (f : Frame) : Type 0 where
  known : attribute_of (val (part xs (p + 1) 4)) ≡ Some f.attribute
  level_is : get_or xs p 0 ≡ f.attribute.level
  go : next_stage s (role f.attribute) p ≡ Ok f.stage
  size_is : val (part xs (p + 5) 4) ≡ f.size
  short : f.size < 0x80000000
  room : p + 9 + f.size + 2 ≤ length xs
  sum_is : val (part xs (p + 9 + f.size) 2) ≡ f.checksum
  sum_right : (is_class f.attribute.rule || eqb f.checksum (checksum (part xs (p + 9) f.size))) ≡ true
  here : f.place ≡ p
  next_is : f.next ≡ p + 9 + f.size + 2

option_cases : {A : Type 0} (o : Option A) → ((a : A) × (o ≡ Some a)) ⊎ (o ≡ None)
option_cases (Some a) = inl (a, refl)
option_cases None = inr refl

outcome_cases : {A : Type 0} (o : Outcome A) → ((a : A) × (o ≡ Ok a)) ⊎ ((r : Refusal) × (o ≡ Err r))
outcome_cases (Ok a) = inl (a, refl)
outcome_cases (Err r) = inr (r, refl)

frame_gives : (xs : List ℕ) (p : ℕ) (s : Stage) (f : Frame) → frame_at xs p s ≡ Ok f → Was xs p s f
unfolding frame_at head_at head_judged sum_judged ◌>>=◌ ◌>>◌
frame_gives xs p s f q =
    let n : ℕ = val (part xs (p + 5) 4) in
    elim (cases_Bool (leb (p + 9) (length xs))) [
      | inr no' ↦ absurd (err_not_ok (rw no' at q))
      | inl room ↦
          let q₁ = rw room at q in
          elim (option_cases (attribute_of (val (part xs (p + 1) 4)))) [
            | inr no' ↦ absurd (err_not_ok (rw no' at q₁))
            | inl (a, ea) ↦
                let q₂ = rw ea at q₁ in
                elim (cases_Bool (eqb (get_or xs p 0) a.level)) [
                  | inr no' ↦ absurd (err_not_ok (rw no' at q₂))
                  | inl lv ↦
                      let q₃ = rw lv at q₂ in
                      elim (outcome_cases (next_stage s (role a) p)) [
                        | inr (r, no') ↦ absurd (err_not_ok (rw no' at q₃))
                        | inl (t, et) ↦
                            let q₄ = rw et at q₃ in
                            elim (cases_Bool (ltb n 0x80000000)) [
                              | inr no' ↦ absurd (err_not_ok (rw no' at q₄))
                              | inl sh ↦
                                  let q₅ = rw sh at q₄ in
                                  elim (cases_Bool (leb (p + 9 + n + 2) (length xs))) [
                                    | inr no' ↦ absurd (err_not_ok (rw no' at q₅))
                                    | inl rm ↦
                                        let q₆ = rw rm at q₅ in
                                        elim (cases_Bool (is_class a.rule || eqb (val (part xs (p + 9 + n) 2)) (checksum (part xs (p + 9) n)))) [
                                          | inr no' ↦ absurd (err_not_ok (rw no' at q₆))
                                          | inl sm ↦
                                              let same = ok_same _ _ (rw sm at q₆) in
                                              rw (← same)
                                              (record {
                                                known = ea;
                                                level_is = eqb-true _ _ lv;
                                                go = et;
                                                size_is = refl;
                                                short = ltb-true _ _ sh;
                                                room = leb-true _ _ rm;
                                                sum_is = refl;
                                                sum_right = sm;
                                                here = refl;
                                                next_is = refl;
                                              })
                                        ]
                                  ]
                            ]
                      ]
                ]
          ]
    ]

-- Two parts, one behind the other.
two : {P Q : List ℕ → Type 0} (xs : List ℕ) (p m n : ℕ) → P (part xs p m) → Q (part xs (p + m) n) → (P ▷ Q) (part xs p (m + n))
two xs p m n a b = record { front = part xs p m; back = part xs (p + m) n; joins = part_split xs p m n; one = a; other = b }

part_one : (xs : List ℕ) (p : ℕ) → p < length xs → part xs p 1 ≡ get_or xs p 0 ∷ []
unfolding part
part_one xs p h = rw (drop_more xs p 0 h)

abbrev laid_at : List ℕ → Frame → Meant → Laid
laid_at xs f m = record { attribute = f.attribute; bytes = part xs (f.place + 9) f.size; sum = f.checksum; meant = m }

find_id : (as' : List Attribute) (i : ℕ) (a : Attribute) → find as' i ≡ Some a → a.id ≡ i
find_id [] i a e = absurd (let z : ◌≡◌ {A = ℕ} 0 1 = cc in omega arith)
find_id (b ∷ as') i a e =
    elim (cases_Bool (eqb b.id i)) [
      | inl t ↦ let here : Some b ≡ Some a = rw t at e in let same : b ≡ a = cc in rw (← same) (eqb-true b.id i t)
      | inr f ↦ find_id as' i a (rw f at e)
    ]

pub id_of : (i : ℕ) (a : Attribute) → attribute_of i ≡ Some a → a.id ≡ i
unfolding attribute_of
id_of i a e = find_id attributes i a e

module _ (xs : List ℕ) (p : ℕ) (s : Stage) (f : Frame) (w : Was xs p s f) where
  right_at : (m : Meant) → meant_at xs f ≡ Ok m → Right (laid_at xs f m)
  right_at m e =
      let here : f.place ≡ p = w.here in
      let room : p + 9 + f.size + 2 ≤ length xs = w.room in
      let id : f.attribute.id ≡ val (part xs (p + 1) 4) = id_of (val (part xs (p + 1) 4)) f.attribute w.known in
      let long : length (part xs (f.place + 9) f.size) ≡ f.size = length_part xs (f.place + 9) f.size (omega arith) in
      let short : f.size < 0x80000000 = w.short in
      record {
        known = ap attribute_of id ∙ w.known;
        short = omega arith;
        sum_right = sum_told (is_class f.attribute.rule) f.checksum _ (rw here w.sum_right);
        admitted = meant_gives (nature f.attribute.rule) f.attribute.rule xs (f.place + 9) f.size m (omega arith) e;
      }

  bytes_at : (m : Meant) → frame_bytes (laid_at xs f m) (part xs p (1 + (4 + (4 + (f.size + 2)))))
  bytes_at m =
      let here : f.place ≡ p = w.here in
      let room : p + 9 + f.size + 2 ≤ length xs = w.room in
      let id : f.attribute.id ≡ val (part xs (p + 1) 4) = id_of (val (part xs (p + 1) 4)) f.attribute w.known in
      let five : p + 1 + 4 ≡ p + 5 = omega arith in
      let nine : p + 1 + 4 + 4 ≡ p + 9 = omega arith in
      let base : f.place + 9 ≡ p + 9 = omega arith in
      let long : length (part xs (f.place + 9) f.size) ≡ f.size = length_part xs (f.place + 9) f.size (omega arith) in
      two xs p 1 _ (part_one xs p (omega arith) ∙ ap (λ l. l ∷ []) w.level_is)
      (two xs (p + 1) 4 _ (length_part xs (p + 1) 4 (omega arith), sym id)
      (two xs (p + 1 + 4) 4 _ (length_part xs (p + 1 + 4) 4 (omega arith), rw (five, long) w.size_is)
      (two xs (p + 1 + 4 + 4) f.size 2 (rw (nine, base))
      (length_part xs (p + 1 + 4 + 4 + f.size) 2 (omega arith), rw nine w.sum_is))))

-- All frames from p on.
pub record Told (xs : List ℕ) (p : ℕ) (s : Stage) (es : List Entry) : Type 0 where
  pub frames : List Laid
  pub tells : map entry frames ≡ es
  pub right : AllByRecursion Right frames
  pub allowed : Allowed s frames
  pub bytes : run frame_bytes frames (drop p xs)

split_drop : (xs : List ℕ) (p n : ℕ) → drop p xs ≡ part xs p n ++ drop (p + n) xs
unfolding part
split_drop xs p n = sym (take-append-drop n (drop p xs)) ∙ ap (λ l. take n (drop p xs) ++ l) (drop-drop n p xs)

abbrev Next : List ℕ → ℕ → Stage → Option Frame → Type 0
Next xs p s None = (p ≡ length xs) × (may_end s ≡ true)
Next xs p s (Some f) = Was xs p s f

next_gives : (xs : List ℕ) (p : ℕ) (s : Stage) (o : Option Frame) → next_frame xs p s ≡ Ok o → Next xs p s o
unfolding next_frame
next_gives xs p s o e =
    elim (cases_Bool (eqb p (length xs) && may_end s)) [
      | inl end ↦
          let same = ok_same _ _ (rw end at e) in
          let (a, b) = and_parts (eqb p (length xs)) (may_end s) end in
          rw (← same) (eqb-true p (length xs) a, b)
      | inr more ↦
          let (f, ef, same) = over_ok _ _ _ (rw more at e) in
          rw (← same) (frame_gives xs p s f ef)
    ]

step_gives : (xs : List ℕ) (p : ℕ) (s : Stage) (es : List Entry) (rest : Frame → Outcome (List Entry)) → p ≤ length xs →
    ((f : Frame) (gs : List Entry) → f.next ≤ length xs → rest f ≡ Ok gs → Told xs f.next f.stage gs) →
    (o : Option Frame) → Next xs p s o → entries_from rest xs o ≡ Ok es → Told xs p s es
unfolding entries_from
step_gives xs p s es rest i more None (end, may) q =
    let same : [] ≡ es = cc in
    record { frames = []; tells = same; right = tt; allowed = may; bytes = drop_all p xs (omega arith) }
step_gives xs p s es rest i more (Some f) w q =
    let (m, em, q₁) = bind_ok _ _ _ q in
    let (gs, eg, q₂) = bind_ok _ _ _ q₁ in
    let room : p + 9 + f.size + 2 ≤ length xs = w.room in
    let next : f.next ≡ p + 9 + f.size + 2 = w.next_is in
    let told : Told xs f.next f.stage gs = more f gs (omega arith) eg in
    let long : p + (1 + (4 + (4 + (f.size + 2)))) ≡ f.next = omega arith in
    record {
      frames = laid_at xs f m ∷ told.frames;
      tells = ap (λ l. record { id = f.attribute.id; meant = m } ∷ l) told.tells ∙ ok_same _ _ q₂;
      right = (right_at xs p s f w m em, told.right);
      allowed = (f.stage, next_anywhere s (role f.attribute) p f.stage w.go, told.allowed);
      bytes = record {
        front = part xs p (1 + (4 + (4 + (f.size + 2))));
        back = drop f.next xs;
        joins = split_drop xs p _ ∙ ap (λ q. part xs p (1 + (4 + (4 + (f.size + 2)))) ++ drop q xs) long;
        one = bytes_at xs p s f w m;
        other = told.bytes;
      };
    }

pub entries_give : (fuel : ℕ) (xs : List ℕ) (p : ℕ) (s : Stage) (es : List Entry) → p ≤ length xs → entries_at fuel xs p s ≡ Ok es → Told xs p s es
unfolding entries_at
entries_give zero xs p s es i q = absurd (err_not_ok q)
entries_give (suc fuel) xs p s es i q =
    let (o, eo, q₁) = bind_ok _ _ _ q in
    step_gives xs p s es (λ f. entries_at fuel xs f.next f.stage) i (λ f gs j e. entries_give fuel xs f.next f.stage gs j e) o (next_gives xs p s o eo) q₁
