-- What groups of equal forms say of messages.
use Rattle.std.specs.Prelude.{◌≡◌, ℕ, true, ◌↔◌, List}
use Rattle.std.specs.Str.{bytes_eq}
use Rattle.index.specs.Rows.{has, before}
use Rattle.stream.specs.Messages.{Message}
use Rattle.stream.specs.Writing.{written}
use Rattle.message.specs.Sameness.{IsMessage, Same}

-- Of two messages whose forms were added, the groups are equal exactly where the messages are the same: so there are as many
-- different messages as groups.
abbrev pub GroupsDecide : Type 0
GroupsDecide =
    (m n : Message) → IsMessage m → IsMessage n
    → (forms : List (List ℕ)) → has bytes_eq forms (written m) ≡ true → has bytes_eq forms (written n) ≡ true
    → (before bytes_eq forms (written m) ≡ before bytes_eq forms (written n)) ↔ Same m n
