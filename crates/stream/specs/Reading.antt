-- The frames of a stream with what their data mean, or the first refusal.
use Rattle.std.specs.Prelude.{ℕ, zero, suc, ◌+◌, List, [], ◌∷◌, length, Some, None, Ok, Option}
use Rattle.source.specs.Bytes.{part}
use Rattle.source.specs.Outcome.{Outcome, ◌>>=◌, given, over, refused}
use Rattle.source.specs.declared.refusals.Reason.TheVariants.{StreamEnd, NotAdmitted}
use Rattle.attribute.specs.declared.Rule.{Rule}
use Rattle.attribute.specs.declared.Rule.TheVariants as rule
use Rattle.frame.specs.Frames.{header, next_frame}
use Rattle.frame.specs.declared.Frame.{Frame}
use Rattle.frame.specs.declared.stages.Stage.{Stage}
use Rattle.frame.specs.declared.stages.Stage.TheVariants as stage
use Rattle.contents.specs.Contents.{Contents, means, primary_number}
use Rattle.property.specs.Lists.{Property, property_list, recipient_table}

-- What the data of one frame mean.
pub data Meant : Type 0 where
  version : Meant
  primary : ℕ → Meant
  contents : Contents → Meant
  list : List Property → Meant
  table : List (List Property) → Meant

-- What the data of a frame are.
pub data Nature : Type 0 where
  plain : Nature
  opening : Nature  -- the version
  page : Nature
  rows : Nature
  properties : Nature

abbrev pub nature : Rule → Nature
nature rule.Text = plain
nature rule.Class = plain
nature rule.Date = plain
nature rule.Digits = plain
nature rule.Status = plain
nature rule.Priority = plain
nature rule.YesNo = plain
nature rule.Raw = plain
nature rule.Rendering = plain
nature rule.Version = opening
nature rule.CodePage = page
nature rule.Recipients = rows
nature rule.Properties = properties

-- The n bytes from base on, by a rule.
unfoldable pub meant_as : Nature → Rule → List ℕ → (base n : ℕ) → Outcome Meant
meant_as plain r xs base n = over contents (given (means r (part xs base n)) NotAdmitted base)
meant_as opening r xs base n = over (λ c. version) (given (means r (part xs base n)) NotAdmitted base)
meant_as page r xs base n = over (λ c. primary (primary_number c)) (given (means r (part xs base n)) NotAdmitted base)
meant_as rows r xs base n = over table (recipient_table xs base (base + n))
meant_as properties r xs base n = over list (property_list xs base (base + n))

-- What the data of a frame mean; they begin nine bytes behind its place.
abbrev pub meant_at : List ℕ → Frame → Outcome Meant
meant_at xs f = meant_as (nature f.attribute.rule) f.attribute.rule xs (f.place + 9) f.size

-- A frame whose data mean something.
abbrev pub judged : List ℕ → Option Frame → Outcome (Option Frame)
judged xs None = Ok None
judged xs (Some f) = over (λ m. Some f) (meant_at xs f)

-- The frame at p with its data judged, or none where the stream ends there and may.
unfoldable pub next_judged : List ℕ → ℕ → Stage → Outcome (Option Frame)
unfolding ◌>>=◌
next_judged xs p s = do
  o ← next_frame xs p s
  judged xs o

-- A frame by its id and what its data mean.
pub record Entry : Type 0 where
  pub id : ℕ
  pub meant : Meant

unfoldable pub entries_from : (Frame → Outcome (List Entry)) → List ℕ → Option Frame → Outcome (List Entry)
entries_from rest xs None = Ok []
entries_from rest xs (Some f) = do
  m ← meant_at xs f
  es ← rest f
  Ok (record { id = f.attribute.id; meant = m } ∷ es)

-- The entries from place p to the end.
unfoldable pub entries_at : (fuel : ℕ) → List ℕ → ℕ → Stage → Outcome (List Entry)
entries_at zero xs p s = refused StreamEnd p
entries_at (suc fuel) xs p s = do
  o ← next_frame xs p s
  entries_from (λ f. entries_at fuel xs f.next f.stage) xs o

-- All entries of a stream: a frame has eleven bytes at least, so its length is fuel enough.
unfoldable pub entries_of : List ℕ → Outcome (List Entry)
entries_of xs = do
  k ← header xs
  entries_at (length xs) xs 6 stage.Version
