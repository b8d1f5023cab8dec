-- Runs of calls on a draft.
use Rattle.std.specs.Prelude.{◌≡◌, ℕ, ◌<◌, List, [], ◌∷◌, length, Ok}
use Rattle.source.specs.Outcome.{Outcome}
use Rattle.message.specs.Sameness.{SourceBytes}
use Rattle.editing.specs.Edits.{Edit}
use Rattle.editing.specs.Promise.{GivenOctets}
use Rattle.draft.specs.Drafts.{Memory, loaded, begun}
use Rattle.draft.specs.Calls.{State, form, edited, left_by}

-- A call on a draft; a look is any ask or count, which never changes it.
pub data Call : Type 0 where
  begin : (primary : ℕ) → Call
  load : (source : List ℕ) → Call
  edit : Edit → Call
  look : Call

-- What a call writes into a draft, or why it is refused; a look leaves the form that is there.
abbrev pub answer : Memory → State → Call → Outcome (List ℕ)
answer w d (begin p) = begun w (length d.area) p
answer w d (load xs) = loaded w (length d.area) xs
answer w d (edit e) = edited w d e
answer w d look = Ok (form d)

abbrev pub called : Memory → State → Call → State
called w d (begin p) = left_by (answer w d (begin p)) d
called w d (load xs) = left_by (answer w d (load xs)) d
called w d (edit e) = left_by (answer w d (edit e)) d
called w d look = d

-- A call and the work memory that it is given.
pub record Step : Type 0 where
  pub memory : Memory
  pub call : Call

abbrev pub writes : Step → State → Outcome (List ℕ)
writes s d = answer s.memory d s.call

abbrev pub leaves : Step → State → State
leaves s d = called s.memory d s.call

abbrev pub loading : Memory → List ℕ → Step
loading w xs = record { memory = w; call = load xs }

abbrev pub Accepted : Step → State → Type 0
Accepted s d = (f : List ℕ) × (writes s d ≡ Ok f)

-- The draft after a run of calls, refused or not.
abbrev pub after : List Step → State → State
after [] d = d
after (s ∷ ss) d = after ss (leaves s d)

abbrev pub AllAccepted : List Step → State → Type 0
AllAccepted [] d = Unit {0}
AllAccepted (s ∷ ss) d = Accepted s d × AllAccepted ss (leaves s d)

-- A draft starts with a begin or a load.
pub data Starts : Call → Type 0 where
  by_begin : {p : ℕ} → Starts (begin p)
  by_load : {xs : List ℕ} → Starts (load xs)

-- What a call is given is of its type: a number of 32 bits, the bytes of a source, bytes.
abbrev pub Possible : Call → Type 0
Possible (begin p) = p < 0x100000000
Possible (load xs) = SourceBytes xs
Possible (edit e) = GivenOctets e
Possible look = Unit {0}

abbrev pub AllPossible : List Step → Type 0
AllPossible [] = Unit {0}
AllPossible (s ∷ ss) = Possible s.call × AllPossible ss
