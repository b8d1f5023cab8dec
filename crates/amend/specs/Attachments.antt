-- What is written of attachments of which one is changed.
use Rattle.std.specs.Prelude.{◌≡◌, ℕ, List, [], ◌∷◌, map, take, drop}
use Rattle.std.specs.List.{flat_map}
use Rattle.frame.specs.declared.stages.Stage.{Stage}
use Rattle.pen.specs.Pen.{Wrote}
use Rattle.pen.specs.declared.Pen.{Pen}
use Rattle.stream.specs.Reading.{Entry}
use Rattle.stream.specs.Messages.{Holding, holding_of, attachment_parts}
use Rattle.stream.specs.Writing.{write_entry, attachment_entries}
use Rattle.form.specs.Targets.{remaining, Readable}
use Rattle.form.specs.Wholes.{Rendered}
use Rattle.message.specs.Sameness.{nth}
use Rattle.editing.specs.Amendments as spec
use Rattle.editing.specs.Amendments.{touched, change_at}

-- The attachments among entries, and the frames of attachments.
unfoldable pub attachments_in : List Entry → List Holding
attachments_in es = map holding_of (attachment_parts es)

unfoldable pub attachments_bytes : List Holding → List ℕ
attachments_bytes hs = flat_map write_entry (flat_map attachment_entries hs)

-- Attachments of which the first is touched.
abbrev pub first_touched : spec.Touch → List Holding → List Holding
first_touched τ [] = []
first_touched τ (h ∷ hs) = touched τ h ∷ hs

-- Attachments of which the one of a number is touched, if there is one.
unfoldable pub nth_touched : spec.Touch → ℕ → List Holding → List Holding
nth_touched τ k hs = change_at hs k τ (nth hs k)

-- The first n attachments from p on were written, and the others begin at q.
pub record Firsts (xs : List ℕ) (p : ℕ) (s : Stage) (n : ℕ) (before : Pen) (q : ℕ) (t : Stage) (after : Pen) : Type 0 where
  pub penned : Wrote before (attachments_bytes (take n (attachments_in (remaining xs p s)))) after
  pub rest : attachments_in (remaining xs q t) ≡ drop n (attachments_in (remaining xs p s))
  pub good : Readable xs q t
  pub rendered : Rendered (remaining xs q t)
