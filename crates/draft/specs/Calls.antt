-- What a call on a draft answers, and what it leaves.
use Rattle.std.specs.Prelude.{ℕ, ◌&&◌, List, length, take, None, Ok, Err, Option, nat_le}
use Rattle.std.specs.Str.{bytes_eq}
use Rattle.source.specs.Content.{source_limit}
use Rattle.source.specs.Outcome.{Outcome, ◌>>=◌, ◌>>◌, need, given, over}
use Rattle.source.specs.declared.refusals.Reason.TheVariants.{ShortWork, NotWritten}
use Rattle.contents.specs.Options.{where_true}
use Rattle.stream.specs.Messages.{Message, read}
use Rattle.stream.specs.Writing.{written}
use Rattle.message.specs.declared.Target.{Target}
use Rattle.editing.specs.Edits.{Edit, change}
use Rattle.editing.specs.Asks as asks
use Rattle.editing.specs.Asks.{Shown}
use Rattle.draft.specs.Drafts.{Memory, enough, fitted, area_after, size_after}

-- A draft: its area, and the length of the form in it.
pub record State : Type 0 where
  pub area : List ℕ
  pub size : ℕ

abbrev pub state : List ℕ → ℕ → State
state area size = record { area = area; size = size }

abbrev pub form : State → List ℕ
form d = take d.size d.area

-- The message of which the bytes are the written form.
abbrev pub if_written : List ℕ → Outcome Message → Option Message
if_written xs (Ok m) = where_true (bytes_eq (written m) xs) m
if_written xs (Err e) = None

-- Every call on a draft begins so: work memory, then whether the draft is a written form.
unfoldable pub opened : Memory → State → Outcome Message
unfolding ◌>>◌
opened w d = do
  need (enough w (length d.area)) ShortWork 0
  need (nat_le d.size (length d.area) && nat_le d.size source_limit) NotWritten 0
  given (if_written (form d) (read (form d))) NotWritten 0

-- The form that an edit writes.
unfoldable pub edited : Memory → State → Edit → Outcome (List ℕ)
unfolding ◌>>=◌
edited w d e = do
  m ← opened w d
  n ← change e m
  fitted (length d.area) n

-- The draft after a call: the new form and zeros, or what it was.
abbrev pub left_by : Outcome (List ℕ) → State → State
left_by o d = record { area = area_after o d.area; size = size_after o d.size }

-- What asks and counts answer.
unfoldable pub attribute_asked : Memory → State → Target → ℕ → Outcome Shown
unfolding ◌>>=◌
attribute_asked w d t i = do
  m ← opened w d
  asks.attribute_asked t i m

unfoldable pub property_asked : Memory → State → Target → List ℕ → ℕ → Outcome Shown
unfolding ◌>>=◌
property_asked w d t xs i = do
  m ← opened w d
  asks.property_asked t xs i m

unfoldable pub rows_counted : Memory → State → Outcome ℕ
rows_counted w d = over (λ m. length m.rows) (opened w d)

unfoldable pub attachments_counted : Memory → State → Outcome ℕ
attachments_counted w d = over (λ m. length m.attachments) (opened w d)

unfoldable pub properties_counted : Memory → State → Target → Outcome ℕ
unfolding ◌>>=◌
properties_counted w d t = do
  m ← opened w d
  asks.properties_counted t m
