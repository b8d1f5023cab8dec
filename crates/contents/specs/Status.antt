-- The status of a message: five bits that count.
use Rattle.std.specs.Prelude.{ℕ, ◌+◌, Bool, cond, not, List, Option, ◌==◌, bit_and}
use Rattle.scan.specs.Texts.{also}
use Rattle.contents.specs.declared.statuses.Status.{Status}
use Rattle.contents.specs.Options.{number}

abbrev pub bit : ℕ → ℕ → Bool
bit n b = not (bit_and n b == 0)

abbrev pub status_of : ℕ → Status
status_of n = record { read = bit n 0x20; modified = bit n 0x01; submitted = bit n 0x04; unsent = bit n 0x02; attached = bit n 0x80 }

-- Four bytes; other bits than these five are ignored.
abbrev pub status_in : List ℕ → Option Status
status_in xs = also (number 4 xs) status_of

abbrev pub flag : Bool → ℕ → ℕ
flag b n = cond b n 0

-- The bits of a status, with no other bit.
abbrev pub status_bits : Status → ℕ
status_bits s = flag s.read 0x20 + flag s.modified 0x01 + flag s.submitted 0x04 + flag s.unsent 0x02 + flag s.attached 0x80

-- The flags by which a status is reported: read, unmodified, submitted, unsent, with attachments.
abbrev pub flags : Status → ℕ
flags s = flag s.read 0x01 + flag (not s.modified) 0x02 + flag s.submitted 0x04 + flag s.unsent 0x08 + flag s.attached 0x10
