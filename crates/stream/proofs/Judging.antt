-- What judging a frame's data gives, by its rule; and a stream judged frame by frame.
use Rattle.std.proofs.Common.{◌≡◌, ℕ, zero, suc, ◌+◌, ◌<◌, cond, List, length, is_some, Some, None, Ok, Err, Option, sym, refl, ap, ◌∙◌, arith}
use Rattle.std.proofs.lemmas.Bool.{lt-leb, ne_eqb}
use Rattle.source.specs.Bytes.{part}
use Rattle.source.specs.Outcome.{Outcome, ◌>>=◌, ◌>>◌, given, over, refused}
use Rattle.source.specs.declared.refusals.Reason.TheVariants.{NotAdmitted, StreamEnd}
use Rattle.source.specs.declared.refusals.Refusal.{Refusal}
use Rattle.source.proofs.Outcomes.{over_over}
use Rattle.attribute.specs.declared.Rule.{Rule}
use Rattle.attribute.specs.declared.Rule.TheVariants as rule
use Rattle.frame.specs.Frames.{header, head_at, frame_at, next_frame}
use Rattle.frame.specs.declared.Frame.{Frame}
use Rattle.frame.specs.declared.stages.Stage.{Stage}
use Rattle.frame.specs.declared.stages.Stage.TheVariants as stage
use Rattle.frame.proofs.Standing.{next_stands}
use Rattle.contents.specs.Contents.{Contents, means, admits}
use Rattle.property.specs.Lists.{property_list, recipient_table}
use Rattle.stream.specs.Reading.{Meant, nature, meant_as, judged, next_judged, Entry, entries_from, entries_at, entries_of}

-- Only whether.
abbrev pub told : {A : Type 0} → Outcome A → Outcome (Unit {0})
told o = over (λ _. tt) o

admitted : (o : Option Contents) (f : Contents → Meant) (base : ℕ) → told (over f (given o NotAdmitted base)) ≡ cond (is_some o) (Ok tt) (refused NotAdmitted base)
admitted (Some c) f base = refl
admitted None f base = refl

module _ (xs : List ℕ) (base n : ℕ) where
  pub by_rule : (r : Rule) → (r ≡ rule.Recipients → ⊥) → (r ≡ rule.Properties → ⊥)
      → told (meant_as (nature r) r xs base n) ≡ cond (admits r (part xs base n)) (Ok tt) (refused NotAdmitted base)
  unfolding meant_as admits
  by_rule rule.Text a b = admitted (means rule.Text (part xs base n)) _ base
  by_rule rule.Class a b = admitted (means rule.Class (part xs base n)) _ base
  by_rule rule.Date a b = admitted (means rule.Date (part xs base n)) _ base
  by_rule rule.Digits a b = admitted (means rule.Digits (part xs base n)) _ base
  by_rule rule.Status a b = admitted (means rule.Status (part xs base n)) _ base
  by_rule rule.Priority a b = admitted (means rule.Priority (part xs base n)) _ base
  by_rule rule.YesNo a b = admitted (means rule.YesNo (part xs base n)) _ base
  by_rule rule.Raw a b = admitted (means rule.Raw (part xs base n)) _ base
  by_rule rule.Rendering a b = admitted (means rule.Rendering (part xs base n)) _ base
  by_rule rule.Version a b = admitted (means rule.Version (part xs base n)) _ base
  by_rule rule.CodePage a b = admitted (means rule.CodePage (part xs base n)) _ base
  by_rule rule.Recipients a b = absurd (a refl)
  by_rule rule.Properties a b = absurd (b refl)

  pub by_table : told (meant_as (nature rule.Recipients) rule.Recipients xs base n) ≡ told (recipient_table xs base (base + n))
  unfolding meant_as
  by_table = over_over _ _ (recipient_table xs base (base + n))

  pub by_list : told (meant_as (nature rule.Properties) rule.Properties xs base n) ≡ told (property_list xs base (base + n))
  unfolding meant_as
  by_list = over_over _ _ (property_list xs base (base + n))

-- Any fuel that outlasts the stream gives the same entries.
module _ (xs : List ℕ) where
  same_from : (j k : Frame → Outcome (List Entry)) (o : Option Frame) → ((f : Frame) → o ≡ Some f → j f ≡ k f) → entries_from j xs o ≡ entries_from k xs o
  unfolding entries_from
  same_from j k None e = refl
  same_from j k (Some f) e = rw (e f refl)

  bind_same : (o : Outcome (Option Frame)) (j k : Option Frame → Outcome (List Entry)) → ((x : Option Frame) → Ok x ≡ o → j x ≡ k x) → (o >>= j) ≡ (o >>= k)
  unfolding ◌>>=◌
  bind_same (Ok x) j k e = e x refl
  bind_same (Err r) j k e = refl

  past_end : (p : ℕ) (s : Stage) → length xs < p → next_frame xs p s ≡ refused StreamEnd p
  unfolding next_frame frame_at head_at ◌>>=◌ ◌>>◌
  past_end p s h = rw (ne_eqb p (length xs) (λ e. omega arith), lt-leb (p + 9) (length xs) (omega arith))

  past : (b : ℕ) (p : ℕ) (s : Stage) → length xs < p → entries_at b xs p s ≡ refused StreamEnd p
  unfolding entries_at ◌>>=◌
  past zero p s h = refl
  past (suc b) p s h = rw (past_end p s h)

  pub any_fuel : (a b : ℕ) (p : ℕ) (s : Stage) → length xs < p + a → length xs < p + b → entries_at a xs p s ≡ entries_at b xs p s
  unfolding entries_at
  any_fuel zero b p s h k = sym (past b p s (omega arith))
  any_fuel (suc a) zero p s h k = past (suc a) p s (omega arith)
  any_fuel (suc a) (suc b) p s h k =
      bind_same (next_frame xs p s) _ _ (λ x e. same_from _ _ x (λ f q.
      let t = next_stands xs p s f (ap Ok (sym q) ∙ e) in any_fuel a b f.next f.stage (omega (arith, t.next)) (omega (arith, t.next))))

  -- One frame more, or the end.
  refused_by : (rest : Frame → Outcome (List Entry)) (o : Outcome (Option Frame)) (r : Refusal)
      → Err r ≡ (o >>= judged xs) → Err r ≡ told (o >>= entries_from rest xs)
  unfolding ◌>>=◌ entries_from
  refused_by rest (Err q) r e = cc
  refused_by rest (Ok None) r e = grind arith
  refused_by rest (Ok (Some f)) r e = grind arith

  ended_by : (rest : Frame → Outcome (List Entry)) (o : Outcome (Option Frame)) → Ok None ≡ (o >>= judged xs) → Ok tt ≡ told (o >>= entries_from rest xs)
  unfolding ◌>>=◌ entries_from
  ended_by rest (Err q) e = grind arith
  ended_by rest (Ok None) e = refl
  ended_by rest (Ok (Some f)) e = grind arith

  on_by : (rest : Frame → Outcome (List Entry)) (o : Outcome (Option Frame)) (f : Frame) → Ok (Some f) ≡ (o >>= judged xs)
      → told (rest f) ≡ told (o >>= entries_from rest xs)
  unfolding ◌>>=◌ entries_from
  on_by rest (Err q) f e = grind arith
  on_by rest (Ok None) f e = grind arith
  on_by rest (Ok (Some g)) f e = grind arith

  -- The rest of the stream from p, with fuel enough.
  abbrev pub rest_at : ℕ → Stage → Outcome (Unit {0})
  rest_at p s = told (entries_at (length xs) xs p s)

  one_more : (p : ℕ) (s : Stage) → 0 < p → rest_at p s ≡ told (entries_at (suc (length xs)) xs p s)
  one_more p s h = ap told (any_fuel (length xs) (suc (length xs)) p s (omega arith) (omega arith))

  pub rest_refused : (p : ℕ) (s : Stage) (r : Refusal) → 0 < p → Err r ≡ next_judged xs p s → Err r ≡ rest_at p s
  unfolding next_judged entries_at
  rest_refused p s r h e = refused_by _ (next_frame xs p s) r e ∙ sym (one_more p s h)

  pub rest_ended : (p : ℕ) (s : Stage) → 0 < p → Ok None ≡ next_judged xs p s → Ok tt ≡ rest_at p s
  unfolding next_judged entries_at
  rest_ended p s h e = ended_by _ (next_frame xs p s) e ∙ sym (one_more p s h)

  pub rest_on : (p : ℕ) (s : Stage) (f : Frame) → 0 < p → Ok (Some f) ≡ next_judged xs p s → rest_at f.next f.stage ≡ rest_at p s
  unfolding next_judged entries_at
  rest_on p s f h e = (on_by (λ f. entries_at (length xs) xs f.next f.stage) (next_frame xs p s) f e) ∙ sym (one_more p s h)

  pub unsigned : (r : Refusal) → Err r ≡ header xs → Err r ≡ told (entries_of xs)
  unfolding entries_of ◌>>=◌
  unsigned r e = rw (← e)

  pub opened : (k : ℕ) → Ok k ≡ header xs → rest_at 6 stage.Version ≡ told (entries_of xs)
  unfolding entries_of ◌>>=◌
  opened k e = rw (← e)
