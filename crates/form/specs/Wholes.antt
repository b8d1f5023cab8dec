-- The whole of what is written, target by target.
use Rattle.std.specs.Prelude.{◌≡◌, ℕ, ◌<◌, List, [], ◌∷◌, ◌++◌, map, length, Some, Option}
use Rattle.std.specs.List.{flat_map}
use Rattle.attribute.specs.Table.{rendering_id, version_id}
use Rattle.frame.specs.Frames.{signature}
use Rattle.frame.specs.declared.stages.Stage.{Stage}
use Rattle.pen.specs.Pen.{Told, Wrote}
use Rattle.pen.specs.declared.Pen.{Pen}
use Rattle.stream.specs.Reading.{version, Entry}
use Rattle.stream.specs.Messages.{holding_of, attachment_parts}
use Rattle.stream.specs.Writing.{write_entry, attachment_entries}
use Rattle.form.specs.Targets.{remaining, Readable, own_part, past_part}

-- The header, with the key 01 00, and the version's frame.
abbrev pub front_bytes : List ℕ
front_bytes = (signature ++ 1 ∷ (0 ∷ [])) ++ write_entry (record { id = version_id; meant = version })

-- Entries that begin with a rendering, if there are any.
abbrev pub Rendered : List Entry → Type 0
Rendered [] = Unit {0}
Rendered (e ∷ es) = e.id ≡ rendering_id

-- The frames of one attachment's entries, and of all attachments among entries.
unfoldable pub attached : List Entry → List ℕ
attached es = flat_map write_entry (attachment_entries (holding_of es))

unfoldable pub all_attached : List Entry → List ℕ
all_attached es = flat_map write_entry (flat_map attachment_entries (map holding_of (attachment_parts es)))

-- An attachment that begins at p was written, and the next begins at q.
pub record Next (xs : List ℕ) (p : ℕ) (s : Stage) (before : Pen) (q : ℕ) (t : Stage) (after : Pen) : Type 0 where
  pub penned : Wrote before (attached (own_part (remaining xs p s))) after
  pub rest : remaining xs q t ≡ past_part (remaining xs p s)
  pub good : Readable xs q t
  pub onward : p < q

-- Bytes were written from the front of a slice on, up to r, or do not fit.
pub record Fills (before bytes after : List ℕ) (r : Option ℕ) : Type 0 where
  pub kept : length after ≡ length before
  pub told : Told before (Some 0) bytes after r
