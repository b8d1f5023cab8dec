-- The size of a frame's data is the number that stands in its head.
use Rattle.std.proofs.Common.{◌≡◌, ℕ, ◌+◌, List, get_or, Ok, ap, ◌∙◌}
use Rattle.source.specs.Bytes.{part, val}
use Rattle.source.proofs.Outcomes.{ok_same, bind_got, then_got}
use Rattle.frame.specs.Frames.{head_at, head_judged, sum_judged, frame_at}
use Rattle.frame.specs.declared.Frame.{Frame}
use Rattle.frame.specs.declared.stages.Stage.{Stage}

pub frame_size : (xs : List ℕ) (p : ℕ) (s : Stage) (f : Frame) → Ok f ≡ frame_at xs p s → f.size ≡ val (part xs (p + 5) 4)
unfolding frame_at head_at
frame_size xs p s f e =
    let (h, i, a) = bind_got (head_at xs p) _ f e in
    let (j, _, b) = bind_got (head_judged h p s) _ f a in
    let (_, _, d) = bind_got (sum_judged xs p h.size j.attribute.rule) _ f b in
    let (_, _, head) = then_got _ _ h i in
    let same : h ≡ record { level = get_or xs p 0; id = val (part xs (p + 1) 4); size = val (part xs (p + 5) 4) } = ok_same h _ head in
    let size : h.size ≡ val (part xs (p + 5) 4) = rw same in
    ap (λ (x : Frame). x.size) (ok_same f _ d) ∙ size
