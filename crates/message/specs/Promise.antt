-- What written forms promise.
use Rattle.std.specs.Prelude.{◌≡◌, ◌+◌, ◌<◌, ◌↔◌, length, sum_by}
use Rattle.std.specs.List.{AllByRecursion}
use Rattle.source.specs.Bytes.{Octets}
use Rattle.stream.specs.Messages.{Message}
use Rattle.message.specs.Sameness.{Same, Carries, IsMessage}
use Rattle.stream.specs.Writing.{entry_data, entries_in, written}

-- Two messages have equal written forms exactly when they are the same.
abbrev pub FormsDecide : Type 0
FormsDecide = (m n : Message) → IsMessage m → IsMessage n → (written m ≡ written n) ↔ Same m n

pub record FormsRead : Type 0 where
  -- A form carries its message.
  pub again : (m : Message) → IsMessage m → Carries (written m) m
  -- Whoever reads a form and writes what it carries writes the form.
  pub fixed : (m n : Message) → IsMessage m → Carries (written m) n → written n ≡ written m
  pub octets : (m : Message) → IsMessage m → Octets (written m)
  -- The data of each frame fit the field of their length, which has no sign.
  pub lengths : (m : Message) → IsMessage m → AllByRecursion (λ e. length (entry_data e.meant) < 0x80000000) (entries_in m)
  -- A form has a header of six bytes, and eleven bytes around the data of each frame.
  pub size : (m : Message) → length (written m) ≡ 6 + sum_by (λ e. 11 + length (entry_data e.meant)) (entries_in m)
