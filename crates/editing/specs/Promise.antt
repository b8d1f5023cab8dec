-- What edits promise of messages.
use Rattle.std.specs.Prelude.{◌≡◌, ◌≤◌, length, Ok}
use Rattle.source.specs.Bytes.{Octets}
use Rattle.source.specs.Content.{source_limit}
use Rattle.stream.specs.Messages.{Message}
use Rattle.stream.specs.Writing.{written}
use Rattle.message.specs.Sameness.{IsMessage}
use Rattle.editing.specs.Edits.{Edit, put_attribute, put_property, drop_attribute, drop_property, add_row, add_attachment, remove_row, remove_attachment, change}

-- The bytes that an edit is given are bytes.
abbrev pub GivenOctets : Edit → Type 0
GivenOctets (put_attribute t i xs) = Octets xs
GivenOctets (put_property t xs) = Octets xs
GivenOctets (drop_attribute t i) = Unit {0}
GivenOctets (drop_property t xs) = Octets xs
GivenOctets add_row = Unit {0}
GivenOctets (add_attachment xs) = Octets xs
GivenOctets (remove_row r) = Unit {0}
GivenOctets (remove_attachment k) = Unit {0}

-- What an edit makes of a message is a message again, if its form is no longer than a source may be.
abbrev pub ChangesKeep : Type 0
ChangesKeep =
    (e : Edit) (m n : Message) → IsMessage m → GivenOctets e → change e m ≡ Ok n → length (written n) ≤ source_limit
    → IsMessage n
