-- The laws of readers: what a grammar tells is read, and what is read is told by the grammar.
use Rattle.std.proofs.Common.{◌≡◌, ℕ, zero, suc, ◌+◌, ◌-◌, ◌≤◌, Bool, true, false, cond, leb, List, [], ◌∷◌, ◌++◌, length, drop, Some, None, Ok, Err, Option, sym, refl, ap, ◌∙◌, add-zero, arith}
use Rattle.std.proofs.lemmas.List.{append_assoc, length-append}
use Rattle.std.proofs.lemmas.Bool.{le-leb, leb-true}
use Rattle.source.specs.declared.refusals.Reason.{Reason}
use Rattle.source.specs.declared.refusals.Reason.TheVariants.{FieldEnd}
use Rattle.source.specs.Bytes.{val, part}
use Rattle.source.specs.Outcome.{Outcome, ◌>>=◌, ◌>>◌, need, given, over}
use Rattle.scan.proofs.Numbers.{length_part}
use Rattle.property.specs.Fields.{At, at, padded, repeated, field, number_at, sized}
use Rattle.message.specs.Grammar.{◌▷◌, number, filling, sizing, run}
use Rattle.message.proofs.Pieces.{drop_behind, part_here, part_split, part_none}
use Rattle.message.proofs.Outcomes.{bind_ok, need_ok, need_true}

pub record Laws {A : Type 0} (xs : List ℕ) (end : ℕ) (read : ℕ → Outcome (At A)) (G : A → List ℕ → Type 0) : Type 0 where
  pub back : (p : ℕ) (a : A) (bs rest : List ℕ) → G a bs → drop p xs ≡ bs ++ rest → p + length bs ≤ end → read p ≡ Ok (at a (p + length bs))
  pub gives : (p : ℕ) (r : At A) → p ≤ end → read p ≡ Ok r → (n : ℕ) × (p + n ≡ r.next) × (r.next ≤ end) × G r.what (part xs p n)

module _ (xs : List ℕ) (end : ℕ) where
  -- One reader behind another; bytes for b are split into what the two read.
  pub bind_laws : {A B : Type 0} (first : ℕ → Outcome (At A)) (Ga : A → List ℕ → Type 0) (second : A → ℕ → Outcome (At B)) (Gb : A → B → List ℕ → Type 0) (G : B → List ℕ → Type 0) →
      Laws xs end first Ga → ((a : A) → Laws xs end (second a) (Gb a)) →
      ((b : B) (bs : List ℕ) → G b bs → (a : A) × (Ga a ▷ Gb a b) bs) →
      ((a : A) (b : B) (bs : List ℕ) → (Ga a ▷ Gb a b) bs → G b bs) →
      Laws xs end (λ p. first p >>= (λ a. second a.what a.next)) G
  unfolding ◌>>=◌
  bind_laws first Ga second Gb G la lb down up = record {
    back = λ p b bs rest g e i.
        let (a, s) = down b bs g in
        let e₁ : drop p xs ≡ s.front ++ (s.back ++ rest) = e ∙ ap (λ l. l ++ rest) s.joins ∙ append_assoc s.front s.back rest in
        let long : length bs ≡ length s.front + length s.back = ap length s.joins ∙ length-append s.front s.back in
        let same : p + length s.front + length s.back ≡ p + length bs = omega arith in
        rw (la.back p a s.front _ s.one e₁ (omega arith))
        ((lb a).back (p + length s.front) b s.back rest s.other (drop_behind s.front _ xs p e₁) (omega arith) ∙ ap (λ n. Ok (at b n)) same);
    gives = λ p r i e.
        let (s, es, e₁) = bind_ok _ _ _ e in
        let (m, nm, im, ga) = la.gives p s i es in
        let (n, nn, il, gb) = (lb s.what).gives s.next r im e₁ in
        let gb' : Gb s.what r.what (part xs (p + m) n) = rw nm gb in
        (m + n, omega arith, il, up s.what r.what (part xs p (m + n)) (record { front = part xs p m; back = part xs (p + m) n; joins = part_split xs p m n; one = ga; other = gb' }));
  }

  -- The same reader, written or told otherwise.
  pub same_reads : {A : Type 0} (read read' : ℕ → Outcome (At A)) (G : A → List ℕ → Type 0) → ((p : ℕ) → read' p ≡ read p) → Laws xs end read G → Laws xs end read' G
  same_reads read read' G same l = record {
    back = λ p a bs rest g e i. same p ∙ l.back p a bs rest g e i;
    gives = λ p r i e. l.gives p r i (sym (same p) ∙ e);
  }

  pub same_laws : {A : Type 0} (read : ℕ → Outcome (At A)) (G G' : A → List ℕ → Type 0) → Laws xs end read G →
      ((a : A) (bs : List ℕ) → G' a bs → G a bs) → ((a : A) (bs : List ℕ) → G a bs → G' a bs) → Laws xs end read G'
  same_laws read G G' l down up = record {
    back = λ p a bs rest g e i. l.back p a bs rest (down a bs g) e i;
    gives = λ p r i e. let (n, nn, il, g) = l.gives p r i e in (n, nn, il, up r.what (part xs p n) g);
  }

  -- What is read, under a function.
  pub view_laws : {A B : Type 0} (f : A → B) (read : ℕ → Outcome (At A)) (G : A → List ℕ → Type 0) (G' : B → List ℕ → Type 0) → Laws xs end read G →
      ((b : B) (bs : List ℕ) → G' b bs → (a : A) × (f a ≡ b) × G a bs) → ((a : A) (bs : List ℕ) → G a bs → G' (f a) bs) →
      Laws xs end (λ p. read p >>= (λ a. Ok (at (f a.what) a.next))) G'
  unfolding ◌>>=◌
  view_laws f read G G' l down up = record {
    back = λ p b bs rest g e i.
        let (a, is, ga) = down b bs g in
        rw (l.back p a bs rest ga e i) (ap (λ c. Ok (at c (p + length bs))) is);
    gives = λ p r i e.
        let (s, es, e₁) = bind_ok _ _ _ e in
        let (n, nn, il, g) = l.gives p s i es in
        let same : at (f s.what) s.next ≡ r = cc in
        rw (← same) (n, nn, il, up s.what (part xs p n) g);
  }

  -- The same behind a test of what is read.
  pub checked_laws : {A B : Type 0} (t : A → Bool) (r : Reason) (place : ℕ) (f : A → B) (read : ℕ → Outcome (At A)) (G : A → List ℕ → Type 0) (G' : B → List ℕ → Type 0) → Laws xs end read G →
      ((b : B) (bs : List ℕ) → G' b bs → (a : A) × (f a ≡ b) × (t a ≡ true) × G a bs) → ((a : A) (bs : List ℕ) → t a ≡ true → G a bs → G' (f a) bs) →
      Laws xs end (λ p. read p >>= (λ a. need (t a.what) r place >> Ok (at (f a.what) a.next))) G'
  unfolding ◌>>=◌
  checked_laws t r place f read G G' l down up = record {
    back = λ p b bs rest g e i.
        let (a, is, ok, ga) = down b bs g in
        rw (l.back p a bs rest ga e i) (need_true (t a) r place _ ok ∙ ap (λ c. Ok (at c (p + length bs))) is);
    gives = λ p d i e.
        let (s, es, e₁) = bind_ok _ _ _ e in
        let (ok, e₂) = need_ok _ _ _ _ _ e₁ in
        let (n, nn, il, g) = l.gives p s i es in
        let same : at (f s.what) s.next ≡ d = cc in
        rw (← same) (n, nn, il, up s.what (part xs p n) ok g);
  }

  pub give_laws : {A : Type 0} (a : A) → Laws xs end (λ p. Ok (at a p)) (λ b bs. (b ≡ a) × (bs ≡ []))
  give_laws a = record {
    back = λ p b bs rest g e i. rw (g.0, g.1, add-zero);
    gives = λ p r i e. let same : at a p ≡ r = cc in rw (← same) (0, add-zero p, i, (refl, part_none xs p));
  }

  -- A test before a reader.
  pub test_laws : {A : Type 0} (b : Bool) (r : Reason) (place : ℕ) (next : ℕ → Outcome (At A)) (G : A → List ℕ → Type 0) →
      (b ≡ true → Laws xs end next G) → Laws xs end (λ p. need b r place >> next p) (λ a bs. (b ≡ true) × G a bs)
  unfolding ◌>>◌
  test_laws true r place next G l = record {
    back = λ p a bs rest g e i. (l refl).back p a bs rest g.1 e i;
    gives = λ p s i e. let (n, nn, il, g) = (l refl).gives p s i e in (n, nn, il, (refl, g));
  }
  test_laws false r place next G l = record {
    back = λ p a bs rest g e i. absurd (let z : ◌≡◌ {A = ℕ} 0 1 = cc g.0 in omega arith);
    gives = λ p s i e. absurd (let z : ◌≡◌ {A = ℕ} 0 1 = cc in omega arith);
  }

  -- Something known beforehand.
  pub given_laws : {A B : Type 0} (o : Option A) (r : Reason) (place : ℕ) (second : A → ℕ → Outcome (At B)) (Gb : A → B → List ℕ → Type 0) →
      ((a : A) → o ≡ Some a → Laws xs end (second a) (Gb a)) → Laws xs end (λ p. given o r place >>= (λ a. second a p)) (λ b bs. (a : A) × (o ≡ Some a) × Gb a b bs)
  unfolding ◌>>=◌
  given_laws (Some a) r place second Gb l = record {
    back = λ p b bs rest g e i. let (c, is, gb) = g in let same : c ≡ a = cc in (l a refl).back p b bs rest (rw same at gb) e i;
    gives = λ p s i e. let (n, nn, il, g) = (l a refl).gives p s i e in (n, nn, il, (a, refl, g));
  }
  given_laws None r place second Gb l = record {
    back = λ p b bs rest g e i. absurd (let (c, is, gb) = g in let z : ◌≡◌ {A = ℕ} 0 1 = cc in omega arith);
    gives = λ p s i e. absurd (let z : ◌≡◌ {A = ℕ} 0 1 = cc in omega arith);
  }

  -- One reader or another.
  pub either_laws : {A : Type 0} (b : Bool) (one two : ℕ → Outcome (At A)) (G : A → List ℕ → Type 0) →
      (b ≡ true → Laws xs end one G) → (b ≡ false → Laws xs end two G) → Laws xs end (λ p. cond b (one p) (two p)) G
  either_laws true one two G y n = y refl
  either_laws false one two G y n = n refl

  module _ {A : Type 0} (read : ℕ → Outcome (At A)) (G : A → List ℕ → Type 0) (l : Laws xs end read G) where
    abbrev tail : List A → List A
    tail [] = []
    tail (a ∷ ls) = ls

    none : (ls : List A) (bs : List ℕ) → (length ls ≡ 0) × run G ls bs → (ls ≡ []) × (bs ≡ [])
    none [] bs g = (refl, g.1)
    none (a ∷ ls) bs g = absurd (omega arith)

    more : (n : ℕ) (ls : List A) (bs : List ℕ) → (length ls ≡ suc n) × run G ls bs → (a : A) × (G a ▷ (λ cs. (ls ≡ a ∷ tail ls) × ((length (tail ls) ≡ n) × run G (tail ls) cs))) bs
    more n [] bs g = absurd (omega arith)
    more n (a ∷ ls) bs g = (a, record { front = g.1.front; back = g.1.back; joins = g.1.joins; one = g.1.one; other = (refl, (omega arith, g.1.other)) })

    -- n readings in a row.
    pub repeated_laws : (n : ℕ) → Laws xs end (repeated read n) (λ ls bs. (length ls ≡ n) × run G ls bs)
    unfolding repeated
    repeated_laws zero = same_laws _ _ _ (give_laws []) none (λ ls bs g. rw g.0 (refl, g.1))
    repeated_laws (suc n) =
        bind_laws read G (λ a q. repeated read n q >>= (λ rest. Ok (at (a ∷ rest.what) rest.next))) (λ a ls cs. (ls ≡ a ∷ tail ls) × ((length (tail ls) ≡ n) × run G (tail ls) cs)) _ l
        (λ a. view_laws (λ ls. a ∷ ls) _ _ _ (repeated_laws n) (λ ls cs w. (tail ls, sym w.0, w.1)) (λ ls cs w. (refl, w)))
        (more n)
        (λ a ls bs s. rw s.other.0 (ap suc s.other.1.0, record { front = s.front; back = s.back; joins = s.joins; one = s.one; other = s.other.1.1 }))

shift : {A B : Type 0} (o : Outcome A) (q : ℕ) (second : A → ℕ → Outcome B) → (o >>= (λ n. second n q)) ≡ (over (λ n. at n q) o >>= (λ a. second a.what a.next))
unfolding ◌>>=◌
shift (Ok a) q second = refl
shift (Err e) q second = refl

module _ (xs : List ℕ) (end : ℕ) (fits : end ≤ length xs) (start : ℕ) where
  field_laws : {A : Type 0} (f : List ℕ → A) (n : ℕ) → Laws xs end (λ p. over (λ a. at a (p + n)) (over f (field xs end start p n))) (λ a bs. (length bs ≡ n) × (f bs ≡ a))
  unfolding field ◌>>◌
  field_laws f n = record {
    back = λ p a bs rest g e i.
        rw (le-leb (p + n) end (omega arith), part_here xs bs rest p n e g.0, g.1, g.0);
    gives = λ p r i e.
        let fit : p + n ≤ end = grind arith in
        let same : at (f (part xs p n)) (p + n) ≡ r = grind arith in
        rw (← same) (n, refl, fit, (length_part xs p n (omega arith), refl));
  }

  -- A number, and behind it what it asks for.
  pub number_then : {B : Type 0} (w : ℕ) (second : ℕ → ℕ → Outcome (At B)) (Gb : ℕ → B → List ℕ → Type 0) (G : B → List ℕ → Type 0) →
      ((n : ℕ) → Laws xs end (second n) (Gb n)) →
      ((b : B) (bs : List ℕ) → G b bs → (n : ℕ) × (number w n ▷ Gb n b) bs) →
      ((n : ℕ) (b : B) (bs : List ℕ) → (number w n ▷ Gb n b) bs → G b bs) →
      Laws xs end (λ p. number_at xs end start p w >>= (λ n. second n (p + w))) G
  unfolding number_at
  number_then w second Gb G l down up =
      same_reads xs end _ _ G (λ p. shift (over val (field xs end start p w)) (p + w) second)
      (bind_laws xs end _ (number w) second Gb G (field_laws val w) l down up)

  -- A number and no more.
  pub number_last : {B : Type 0} (w : ℕ) (f : ℕ → B) (G : B → List ℕ → Type 0) →
      ((b : B) (bs : List ℕ) → G b bs → (n : ℕ) × (f n ≡ b) × number w n bs) → ((n : ℕ) (bs : List ℕ) → number w n bs → G (f n) bs) →
      Laws xs end (λ p. number_at xs end start p w >>= (λ n. Ok (at (f n) (p + w)))) G
  unfolding number_at
  number_last w f G down up =
      same_reads xs end _ _ G (λ p. shift (over val (field xs end start p w)) (p + w) (λ n q. Ok (at (f n) q)))
      (view_laws xs end f _ (number w) G (field_laws val w) down up)

  -- A count that passes a test, and so many.
  pub counted_laws : {A : Type 0} (read : ℕ → Outcome (At A)) (G : A → List ℕ → Type 0) → Laws xs end read G → (t : ℕ → Bool) (r : Reason) (place : ℕ) →
      Laws xs end (λ p. number_at xs end start p 4 >>= (λ n. need (t n) r place >> repeated read n (p + 4))) (λ ls bs. (t (length ls) ≡ true) × (number 4 (length ls) ▷ run G ls) bs)
  counted_laws read G l t r place =
      number_then 4 (λ n q. need (t n) r place >> repeated read n q) (λ n ls bs. (t n ≡ true) × ((length ls ≡ n) × run G ls bs)) _
      (λ n. test_laws xs end (t n) r place (repeated read n) _ (λ ok. repeated_laws xs end read G l n))
      (λ ls bs g. (length ls, record { front = g.1.front; back = g.1.back; joins = g.1.joins; one = g.1.one; other = (g.0, (refl, g.1.other)) }))
      (λ n ls bs g. rw g.other.1.0 (g.other.0, record { front = g.front; back = g.back; joins = g.joins; one = g.one; other = g.other.1.1 }))

  pub field_then : {B : Type 0} (w : ℕ) (second : List ℕ → ℕ → Outcome (At B)) (Gb : List ℕ → B → List ℕ → Type 0) (G : B → List ℕ → Type 0) →
      ((s : List ℕ) → Laws xs end (second s) (Gb s)) →
      ((b : B) (bs : List ℕ) → G b bs → (s : List ℕ) × ((λ cs. (length cs ≡ w) × (cs ≡ s)) ▷ Gb s b) bs) →
      ((s : List ℕ) (b : B) (bs : List ℕ) → ((λ cs. (length cs ≡ w) × (cs ≡ s)) ▷ Gb s b) bs → G b bs) →
      Laws xs end (λ p. field xs end start p w >>= (λ s. second s (p + w))) G
  field_then w second Gb G l down up =
      same_reads xs end _ _ G (λ p. again p ∙ shift (over (λ s. s) (field xs end start p w)) (p + w) second)
      (bind_laws xs end _ (λ s cs. (length cs ≡ w) × (cs ≡ s)) second Gb G (field_laws (λ s. s) w) l down up)
    where
      itself : {A : Type 0} (o : Outcome A) → o ≡ over (λ a. a) o
      itself (Ok a) = refl
      itself (Err e) = refl

      again : (p : ℕ) → (field xs end start p w >>= (λ s. second s (p + w))) ≡ (over (λ s. s) (field xs end start p w) >>= (λ s. second s (p + w)))
      again p = ap (λ o. o >>= (λ s. second s (p + w))) (itself (field xs end start p w))

  -- Bytes of a known size, with their padding.
  pub padding_laws : {A : Type 0} (f : List ℕ → A) (n : ℕ) →
      Laws xs end (λ p. need (leb (p + padded n) end) FieldEnd start >> Ok (at (f (part xs p n)) (p + padded n))) (λ a bs. (s : List ℕ) × (length s ≡ n) × (a ≡ f s) × filling s bs)
  unfolding ◌>>◌
  padding_laws f n = record {
    back = λ p a bs rest g e i.
        let (s, ls, is, fl) = g in
        let same : fl.front ≡ s = fl.one in
        let e₁ : drop p xs ≡ s ++ (fl.back ++ rest) = e ∙ ap (λ l. l ++ rest) (fl.joins ∙ ap (λ l. l ++ fl.back) same) ∙ append_assoc s fl.back rest in
        let tail : length fl.back ≡ padded (length s) - length s = fl.other in
        let long : length bs ≡ length fl.front + length fl.back = ap length fl.joins ∙ length-append fl.front fl.back in
        let lf : length fl.front ≡ n = ap length same ∙ ls in
        let tail' : length fl.back ≡ padded n - n = rw ls at tail in
        let size : length bs ≡ padded n = omega arith in
        rw (size, le-leb (p + padded n) end (omega arith), part_here xs s _ p n e₁ ls, is);
    gives = λ p r i e.
        let (t, e₁) = need_ok _ _ _ _ _ e in
        let fit : p + padded n ≤ end = leb-true _ _ t in
        let same : at (f (part xs p n)) (p + padded n) ≡ r = cc in
        let lp : length (part xs p n) ≡ n = length_part xs p n (omega arith) in
        let whole : padded n ≡ n + (padded n - n) = omega arith in
        let fl : filling (part xs p n) (part xs p (padded n)) =
        record {
          front = part xs p n;
          back = part xs (p + n) (padded n - n);
          joins = ap (part xs p) whole ∙ part_split xs p n (padded n - n);
          one = refl;
          other = rw lp (length_part xs (p + n) (padded n - n) (omega arith));
        } in
        rw (← same) (padded n, refl, fit, (part xs p n, lp, refl, fl));
  }

  pub sized_laws : Laws xs end (sized xs end start) sizing
  unfolding sized
  sized_laws =
      number_then 4 (λ n q. need (leb (q + padded n) end) FieldEnd start >> Ok (at (part xs q n) (q + padded n))) (λ n s bs. (t : List ℕ) × (length t ≡ n) × (s ≡ t) × filling t bs) sizing
      (λ n. padding_laws (λ s. s) n)
      (λ s bs g. (length s, record { front = g.front; back = g.back; joins = g.joins; one = g.one; other = (s, refl, refl, g.other) }))
      (λ n s bs g. let (t, lt, is, fl) = g.other in record { front = g.front; back = g.back; joins = g.joins; one = rw (is, lt) g.one; other = rw is fl })
