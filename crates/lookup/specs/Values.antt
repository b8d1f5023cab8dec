-- Where values stand in a stream.
use Rattle.std.specs.Prelude.{◌≡◌, ℕ, ◌+◌, ◌<◌, ◌≤◌, List, length, Some, None, Option}
use Rattle.source.specs.Bytes.{part}
use Rattle.property.specs.declared.kinds.Kind.{Kind}
use Rattle.property.specs.declared.kinds.Shape.{Shape}
use Rattle.property.specs.Kinds.{Value, value, shape_of}
use Rattle.listform.specs.Forms.{sized_next}
use Rattle.lookup.specs.declared.values.Span.{Span}

-- The place behind a value that stands behind its size, where the size lies within the stream.
abbrev pub Behind : List ℕ → ℕ → Option ℕ → Type 0
Behind xs p None = length xs < p + 4
Behind xs p (Some n) = n ≡ sized_next xs p

-- A value of a kind, if there is one, stands where a span says.
abbrev pub ValueStands : List ℕ → Kind → Option Value → Option Span → Type 0
ValueStands xs k o None = o ≡ None
ValueStands xs k o (Some s) = (s.place + s.size ≤ length xs) × (o ≡ Some (value k (part xs s.place s.size)))

-- The same, by the type of its property.
abbrev pub ValueThere : List ℕ → ℕ → Option Value → Option Span → Type 0
ValueThere xs t o r = (h : Shape) × (shape_of t ≡ Some h) × ValueStands xs h.kind o r
