-- What is known of a frame that was read.
use Rattle.std.proofs.Common.{◌≡◌, ℕ, ◌+◌, ◌≤◌, List, length, Some, Ok, refl, arith}
use Rattle.std.proofs.lemmas.Bool.Decides.{nat_tests}
use Rattle.source.specs.Outcome.{Outcome, ◌>>=◌}
use Rattle.source.proofs.Outcomes.{ok_same, bind_got}
use Rattle.attribute.specs.declared.Rule.{Rule}
use Rattle.frame.specs.declared.stages.Stage.{Stage}
use Rattle.frame.specs.declared.Frame.{Frame}
use Rattle.frame.specs.declared.Head.{Head}
use Rattle.frame.specs.declared.Judged.{Judged}
use Rattle.frame.specs.Frames.{head_at, head_judged, sum_judged, frame_at, next_frame}

sum_within : (xs : List ℕ) (p n : ℕ) (r : Rule) (k : ℕ) → Ok k ≡ sum_judged xs p n r → p + 9 + n + 2 ≤ length xs
unfolding sum_judged
sum_within xs p n r k e = grind (arith, nat_tests)

-- A frame stands at its place, and ends behind its data and checksum, within the stream.
pub record Stands (xs : List ℕ) (p : ℕ) (f : Frame) : Type 0 where
  pub place : f.place ≡ p
  pub next : f.next ≡ p + 9 + f.size + 2
  pub within : f.next ≤ length xs

module _ (xs : List ℕ) (p : ℕ) (s : Stage) where
  by_sum : Head → Judged → ℕ → Outcome Frame
  by_sum h j k = Ok (record { place = p; attribute = j.attribute; size = h.size; checksum = k; stage = j.stage; next = p + 9 + h.size + 2 })

  by_judged : Head → Judged → Outcome Frame
  by_judged h j = sum_judged xs p h.size j.attribute.rule >>= by_sum h j

  by_head : Head → Outcome Frame
  by_head h = head_judged h p s >>= by_judged h

  -- What a frame that was read is made of.
  pub frame_parts : (f : Frame) → Ok f ≡ frame_at xs p s
      → (h : Head) × (j : Judged) × (k : ℕ) × (Ok j ≡ head_judged h p s) × (Ok k ≡ sum_judged xs p h.size j.attribute.rule)
      × (f ≡ record { place = p; attribute = j.attribute; size = h.size; checksum = k; stage = j.stage; next = p + 9 + h.size + 2 })
  unfolding frame_at ◌>>=◌ by_sum by_judged by_head
  frame_parts f e =
      let (h, _, a) = bind_got (head_at xs p) by_head f e in
      let (j, i, b) = bind_got (head_judged h p s) (by_judged h) f a in
      let (k, c, d) = bind_got (sum_judged xs p h.size j.attribute.rule) (by_sum h j) f b in
      (h, j, k, i, c, ok_same f _ d)

  pub frame_stands : (f : Frame) → Ok f ≡ frame_at xs p s → Stands xs p f
  frame_stands f e =
      let (h, j, k, _, c, q) = frame_parts f e in
      let w = sum_within xs p h.size j.attribute.rule k c in
      rw q (record { place = refl; next = refl; within = w })

  pub next_stands : (f : Frame) → Ok (Some f) ≡ next_frame xs p s → Stands xs p f
  unfolding next_frame
  next_stands f e = frame_stands f (grind (arith, nat_tests))
