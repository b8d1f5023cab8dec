-- The number and the layer by which a refusal is reported, and the line that reports it.
use Rattle.std.specs.Prelude.{ℕ, List, ◌++◌, codes, decimal}
use Rattle.source.specs.declared.refusals.Reason.{Reason}
use Rattle.source.specs.declared.refusals.Reason.TheVariants.{ShortWork, SourceTooLong, SourceEnd, StreamEnd, Signature, Level, UnknownId, Misplaced, LengthSign, Checksum, NotAdmitted, FieldEnd, FieldRule, LeftOver, Limit, Missing, NotWritten, FormTooLong}
use Rattle.source.specs.declared.refusals.Refusal.{Refusal}

abbrev pub number : Reason → ℕ
number ShortWork = 1
number SourceTooLong = 2
number SourceEnd = 3
number StreamEnd = 3
number Signature = 4
number Level = 5
number UnknownId = 6
number Misplaced = 7
number LengthSign = 8
number Checksum = 9
number NotAdmitted = 10
number FieldEnd = 11
number FieldRule = 12
number LeftOver = 13
number Limit = 14
number Missing = 15
number NotWritten = 16
number FormTooLong = 17

abbrev pub layer : Reason → ℕ
layer ShortWork = 5
layer SourceTooLong = 1
layer SourceEnd = 1
layer StreamEnd = 2
layer Signature = 2
layer Level = 2
layer UnknownId = 2
layer Misplaced = 2
layer LengthSign = 2
layer Checksum = 2
layer NotAdmitted = 3
layer FieldEnd = 4
layer FieldRule = 4
layer LeftOver = 4
layer Limit = 4
layer Missing = 5
layer NotWritten = 5
layer FormTooLong = 5

abbrev pub line : Refusal → List ℕ
line r = codes "refused " ++ (decimal (number r.reason) ++ (codes " " ++ (decimal (layer r.reason) ++ (codes " " ++ decimal r.place))))
