-- What restating a stream answers and leaves.
use Rattle.std.specs.Prelude.{◌≡◌, ℕ, ◌&&◌, List, length, take, Ok, Err, nat_le}
use Rattle.source.specs.Content.{source_limit}
use Rattle.source.specs.Outcome.{Outcome, ◌>>=◌, ◌>>◌, need}
use Rattle.source.specs.declared.refusals.Reason.TheVariants.{ShortWork, FormTooLong}
use Rattle.property.specs.Lists.{list_limit}
use Rattle.stream.specs.Messages.{Message, read}
use Rattle.stream.specs.Writing.{written}

-- How long a form is, where it fits `size` bytes and what a source can mean.
unfoldable pub fitted : ℕ → Message → Outcome ℕ
unfolding ◌>>◌
fitted size m = do
  need (nat_le (length (written m)) size && nat_le (length (written m)) source_limit) FormTooLong 0
  Ok (length (written m))

-- The answer, with `room` rows and `size` bytes lent: the refusal of the rows, then the stream's first, then the form's.
unfoldable pub restated : List ℕ → (room size : ℕ) → Outcome ℕ
unfolding ◌>>=◌ ◌>>◌
restated xs room size = do
  need (nat_le list_limit room) ShortWork 0
  m ← read xs
  fitted size m

-- Where it is a length, the bytes before it are the written form of the message that was read.
abbrev pub Restates : List ℕ → List ℕ → Outcome ℕ → Type 0
Restates xs after (Ok n) = (m : Message) × (read xs ≡ Ok m) × (take n after ≡ written m)
Restates xs after (Err e) = Unit {0}
