-- Attachments that are passed, one after another.
use Rattle.std.proofs.Common.{◌≡◌, ℕ, zero, suc, ◌+◌, ◌<◌, ◌≤◌, ltb, List, [], ◌∷◌, ◌++◌, map, length, is_some, Some, None, Option, sym, refl, ap, ◌∙◌, inl, inr, append_assoc, append-nil, arith}
use Rattle.std.proofs.lemmas.List.{length-append}
use Rattle.std.proofs.lemmas.Bool.{cases_lt, lt-ltb, le-ltb, eq-eqb}
use Rattle.attribute.specs.Table.{rendering_id}
use Rattle.frame.specs.Frames.{next_frame}
use Rattle.frame.specs.declared.Frame.{Frame}
use Rattle.frame.specs.declared.stages.Stage.{Stage}
use Rattle.frame.specs.declared.stages.Stage.TheVariants.{Version}
use Rattle.contents.specs.Writing.{known}
use Rattle.index.specs.declared.attributes.AttributeRow.{AttributeRow}
use Rattle.stream.specs.Reading.{Entry}
use Rattle.stream.specs.Messages.{holding_of, attachment_parts}
use Rattle.message.specs.Sameness.{nth}
use Rattle.form.specs.Targets.{remaining, Readable, own_part, past_part, Taken, StaysWritten}
use Rattle.form.specs.Wholes.{Rendered}
use Rattle.form.proofs.Walks.{steps, ends}
use Rattle.form.proofs.Beginnings.{head, later_parts, past_rendered}
use Rattle.form.proofs.Forms.{parts_is, rest_rendered}
use Rattle.lookup.specs.Finding.{message_in, Passed}

-- What stands at a place of a list.
module _ {A : Type 0} where
  pub nth_front : (front : List A) (x : A) (rest : List A) → nth (front ++ x ∷ rest) (length front) ≡ Some x
  nth_front [] x rest = refl
  nth_front (y ∷ front) x rest = nth_front front x rest

  pub nth_past : (l : List A) (k : ℕ) → length l ≤ k → nth l k ≡ None
  nth_past [] k h = refl
  nth_past (x ∷ l) zero h = absurd (omega arith)
  nth_past (x ∷ l) (suc k) h = nth_past l k (omega arith)

parts_cons : (e : Entry) (es : List Entry) → e.id ≡ rendering_id → attachment_parts (e ∷ es) ≡ own_part (e ∷ es) ∷ attachment_parts (past_part (e ∷ es))
unfolding own_part past_part attachment_parts
parts_cons e es d = rw (eq-eqb e.id rendering_id d, later_parts es)

module _ (xs : List ℕ) (p : ℕ) (s : Stage) (g : Readable xs p s) where
  pub nothing_left : length xs ≤ p → remaining xs p s ≡ []
  nothing_left h = by_next (known (next_frame xs p s)) refl
    where
      by_next : (o : Option Frame) → known (next_frame xs p s) ≡ o → remaining xs p s ≡ []
      by_next None o = (ends xs p s g o).0
      by_next (Some f) o = let k = (steps xs p s g f o).stands in absurd (omega (arith, k.next, k.within))

  pub parts_more : Rendered (remaining xs p s) → p < length xs → (q : ℕ) (t : Stage) → remaining xs q t ≡ past_part (remaining xs p s)
      → attachment_parts (remaining xs p s) ≡ own_part (remaining xs p s) ∷ attachment_parts (remaining xs q t)
  parts_more r h q t e = let (x, es, m, d) = head xs p s g r h in rw e (rw m (parts_cons x es d))

module _ (xs : List ℕ) where
  pub passed_none : (rows : List AttributeRow) (q : ℕ) (t : Stage) → Readable xs 6 Version → Taken xs 6 Version rows q t → StaysWritten xs 6 Version rows q t → Passed xs 0 q t
  passed_none rows q t g k a = record {
    good = k.after;
    rendered = rest_rendered xs rows q t g k;
    front = [];
    counted = refl;
    split = ap (map holding_of) (sym (parts_is xs rows q t g k));
    few = k.after.begun;
    along = a.along;
  }

  pub passed_more : (n p : ℕ) (s : Stage) (rows : List AttributeRow) (q : ℕ) (t : Stage) → Passed xs n p s → p < length xs → Taken xs p s rows q t → StaysWritten xs p s rows q t → Passed xs (n + 1) q t
  passed_more n p s rows q t w h k b = record {
    good = k.after;
    rendered = rw k.rest (past_rendered _);
    front = w.front ++ holding_of (own_part (remaining xs p s)) ∷ [];
    counted = length-append w.front _ ∙ ap (λ m. m + 1) w.counted;
    split = w.split ∙ ap (λ l. w.front ++ map holding_of l) (parts_more xs p s w.good w.rendered h q t k.rest)
        ∙ sym (append_assoc w.front (holding_of (own_part (remaining xs p s)) ∷ []) _);
    few = omega (arith, k.onward h, w.few);
    along = λ a. b.along (w.along a);
  }

  -- The next attachment, and none.
  pub passed_here : (n p : ℕ) (s : Stage) → Passed xs n p s → p < length xs → nth (message_in xs).attachments n ≡ Some (holding_of (own_part (remaining xs p s)))
  unfolding past_part
  passed_here n p s w h =
      let (e, es, m, d) = head xs p s w.good w.rendered h in
      let f : attachment_parts (remaining xs p s) ≡ own_part (remaining xs p s) ∷ attachment_parts (past_part (remaining xs p s)) = rw m (parts_cons e es d) in
      ap (λ l. nth l n) (w.split ∙ ap (λ l. w.front ++ map holding_of l) f)
      ∙ ap (nth (w.front ++ holding_of (own_part (remaining xs p s)) ∷ map holding_of (attachment_parts (past_part (remaining xs p s))))) (sym w.counted)
      ∙ nth_front w.front _ _

  pub passed_all : (n p : ℕ) (s : Stage) → Passed xs n p s → length xs ≤ p → length (message_in xs).attachments ≡ n
  unfolding attachment_parts
  passed_all n p s w h =
      ap length (w.split ∙ ap (λ es. w.front ++ map holding_of (attachment_parts es)) (nothing_left xs p s w.good h) ∙ append-nil w.front) ∙ w.counted

  pub passed_gone : (n k p : ℕ) (s : Stage) → Passed xs n p s → n ≤ k → length xs ≤ p → nth (message_in xs).attachments k ≡ None
  passed_gone n k p s w m h = let d = passed_all n p s w h in nth_past (message_in xs).attachments k (omega arith)

  pub passed_tells : (n k p : ℕ) (s : Stage) → Passed xs n p s → n ≤ k → (p < length xs → n ≡ k) → ltb p (length xs) ≡ is_some (nth (message_in xs).attachments k)
  passed_tells n k p s w m h = elim (cases_lt p (length xs)) [
    | inl l ↦ rw (lt-ltb p (length xs) l, ← h l, passed_here n p s w l)
    | inr l ↦ rw (passed_gone n k p s w m l) (le-ltb p (length xs) l)
  ]
