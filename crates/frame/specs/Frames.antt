-- The header, and one frame up to its checksum, in the order of the checks.
use Rattle.std.specs.Prelude.{ℕ, ◌+◌, ◌<◌, ◌≤◌, Bool, true, false, cond, ◌&&◌, ◌||◌, List, [], ◌∷◌, length, take, Some, None, Ok, Option, ◌==◌, nat_le, nat_lt, slice_index}
use Rattle.source.specs.Bytes.{part, val, same_bytes}
use Rattle.source.specs.Content.{source_limit}
use Rattle.source.specs.Outcome.{Outcome, ◌>>=◌, ◌>>◌, need, given, over}
use Rattle.source.specs.declared.refusals.Reason.TheVariants.{StreamEnd, Signature, Level, UnknownId, LengthSign, Checksum}
use Rattle.scan.specs.Scans.{checksum}
use Rattle.attribute.specs.Table.{attribute_of}
use Rattle.attribute.specs.declared.Rule.{Rule}
use Rattle.attribute.specs.declared.Rule.TheVariants as rule
use Rattle.frame.specs.Stages.{role, next_stage, may_end}
use Rattle.frame.specs.declared.stages.Stage.{Stage}
use Rattle.frame.specs.declared.Frame.{Frame}
use Rattle.frame.specs.declared.Head.{Head}
use Rattle.frame.specs.declared.Judged.{Judged}

abbrev pub signature : List ℕ
signature = 0x78 ∷ (0x9F ∷ (0x3E ∷ (0x22 ∷ [])))

-- The key in the header of a stream.
unfoldable pub header : List ℕ → Outcome ℕ
unfolding ◌>>◌
header xs = do
  need (nat_le 6 (length xs)) StreamEnd 0
  need (same_bytes (take 4 xs) signature) Signature 0
  Ok (val (part xs 4 2))

-- The level, the id and the length of a frame at p.
unfoldable pub head_at : List ℕ → ℕ → Outcome Head
unfolding ◌>>◌
head_at xs p = do
  need (nat_le (p + 9) (length xs)) StreamEnd p
  Ok (record { level = slice_index xs p; id = val (part xs (p + 1) 4); size = val (part xs (p + 5) 4) })

-- What they alone decide: the attribute, and the stage after the frame.
unfoldable pub head_judged : Head → ℕ → Stage → Outcome Judged
unfolding ◌>>=◌ ◌>>◌
head_judged h p s = do
  a ← given (attribute_of h.id) UnknownId p
  need (h.level == a.level) Level p
  t ← next_stage s (role a) p
  need (nat_lt h.size 0x80000000) LengthSign p
  Ok (record { attribute = a; stage = t })

abbrev pub is_class : Rule → Bool
is_class rule.Text = false
is_class rule.Class = true
is_class rule.Date = false
is_class rule.Digits = false
is_class rule.Status = false
is_class rule.Priority = false
is_class rule.YesNo = false
is_class rule.Raw = false
is_class rule.Rendering = false
is_class rule.Version = false
is_class rule.CodePage = false
is_class rule.Recipients = false
is_class rule.Properties = false

-- The checksum behind n bytes of data of a frame at p; it is compared but for classes.
unfoldable pub sum_judged : List ℕ → ℕ → ℕ → Rule → Outcome ℕ
unfolding ◌>>◌
sum_judged xs p n r = do
  need (nat_le (p + 9 + n + 2) (length xs)) StreamEnd p
  need (is_class r || val (part xs (p + 9 + n) 2) == checksum (part xs (p + 9) n)) Checksum p
  Ok (val (part xs (p + 9 + n) 2))

-- The frame at p, read at a stage.
unfoldable pub frame_at : List ℕ → ℕ → Stage → Outcome Frame
unfolding ◌>>=◌
frame_at xs p s = do
  h ← head_at xs p
  j ← head_judged h p s
  k ← sum_judged xs p h.size j.attribute.rule
  Ok (record { place = p; attribute = j.attribute; size = h.size; checksum = k; stage = j.stage; next = p + 9 + h.size + 2 })

-- The frame at p, or none where the stream ends there and may.
unfoldable pub next_frame : List ℕ → ℕ → Stage → Outcome (Option Frame)
next_frame xs p s = cond (p == length xs && may_end s) (Ok None) (over Some (frame_at xs p s))

-- A frame ends behind its place, and within what a source can mean.
abbrev pub Onward : ℕ → Frame → Type 0
Onward p f = (p < f.next) × (f.next ≤ source_limit)
