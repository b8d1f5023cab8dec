-- What the code's edits are, and what checking one answers.
use Rattle.std.specs.Prelude.{◌≡◌, ℕ, ◌≤◌, Bool, true, List, [], length, Some, Ok, Err, Result, nat_eq}
use Rattle.source.specs.Content.{source_limit}
use Rattle.source.specs.Outcome.{Outcome}
use Rattle.source.specs.declared.refusals.Refusal.{Refusal}
use Rattle.attribute.specs.Table.{attribute_of}
use Rattle.attribute.specs.declared.Attribute.{Attribute}
use Rattle.attribute.specs.declared.Rule.{Rule}
use Rattle.attribute.specs.declared.Rule.TheVariants as rule
use Rattle.contents.specs.Contents.{Contents, primary_number}
use Rattle.stream.specs.Messages.{Message}
use Rattle.message.specs.declared.Target.{Target}
use Rattle.editing.specs.Targets.{Use, use_of, target_level}
use Rattle.editing.specs.Edits as spec
use Rattle.editing.specs.Amendments as amendments
use Rattle.editing.specs.Amendments.{amended}
use Rattle.amend.specs.Changes.{AmendmentMeans}
use Rattle.amend.specs.declared.changes.Amendment.{Amendment}
use Rattle.draft.specs.declared.edits.Edit.{Edit}
use Rattle.draft.specs.declared.edits.Edit.TheVariants.{PutAttribute, PutProperty, DropAttribute, DropProperty, AddRow, AddAttachment, RemoveRow, RemoveAttachment}

abbrev pub edit_of : Edit → spec.Edit
edit_of (PutAttribute t i d) = spec.put_attribute t i d.now
edit_of (PutProperty t d) = spec.put_property t d.now
edit_of (DropAttribute t i) = spec.drop_attribute t i
edit_of (DropProperty t d) = spec.drop_property t d.now
edit_of AddRow = spec.add_row
edit_of (AddAttachment d) = spec.add_attachment d.now
edit_of (RemoveRow r) = spec.remove_row r
edit_of (RemoveAttachment k) = spec.remove_attachment k

-- The bytes that an edit puts.
abbrev pub put_by : Edit → List ℕ
put_by (PutAttribute t i d) = d.now
put_by (PutProperty t d) = d.now
put_by (DropAttribute t i) = []
put_by (DropProperty t d) = []
put_by AddRow = []
put_by (AddAttachment d) = d.now
put_by (RemoveRow r) = []
put_by (RemoveAttachment k) = []

-- An amendment that makes of a message what the edit makes of it, with ys put; or the refusal.
abbrev pub Checked : List ℕ → Outcome Message → Message → Result Amendment Refusal → Type 0
Checked ys o m (Ok a) = (s : amendments.Amendment) × AmendmentMeans ys a s × (o ≡ Ok (amended s m)) × (length ys ≤ source_limit)
Checked ys o m (Err e) = o ≡ Err e

-- The attribute that a call names is one of the table, of the target's level, and may be named.
pub record NamedFor (t : Target) (i : ℕ) (may : Use → Bool) (a : Attribute) : Type 0 where
  pub known : attribute_of i ≡ Some a
  pub level : nat_eq a.level (target_level t) ≡ true
  pub allowed : may (use_of a.rule) ≡ true

-- What putting contents under an attribute amends.
abbrev pub put_amended : Target → Attribute → Contents → Rule → amendments.Amendment
put_amended t a c rule.Text = amendments.to_target t (record { slot = amendments.put a.id c; listing = amendments.same })
put_amended t a c rule.Class = amendments.to_target t (record { slot = amendments.put a.id c; listing = amendments.same })
put_amended t a c rule.Date = amendments.to_target t (record { slot = amendments.put a.id c; listing = amendments.same })
put_amended t a c rule.Digits = amendments.to_target t (record { slot = amendments.put a.id c; listing = amendments.same })
put_amended t a c rule.Status = amendments.to_target t (record { slot = amendments.put a.id c; listing = amendments.same })
put_amended t a c rule.Priority = amendments.to_target t (record { slot = amendments.put a.id c; listing = amendments.same })
put_amended t a c rule.YesNo = amendments.to_target t (record { slot = amendments.put a.id c; listing = amendments.same })
put_amended t a c rule.Raw = amendments.to_target t (record { slot = amendments.put a.id c; listing = amendments.same })
put_amended t a c rule.Rendering = amendments.to_target t (record { slot = amendments.put a.id c; listing = amendments.same })
put_amended t a c rule.Version = amendments.to_target t (record { slot = amendments.put a.id c; listing = amendments.same })
put_amended t a c rule.CodePage = amendments.to_page (primary_number c)
put_amended t a c rule.Recipients = amendments.to_target t (record { slot = amendments.put a.id c; listing = amendments.same })
put_amended t a c rule.Properties = amendments.to_target t (record { slot = amendments.put a.id c; listing = amendments.same })
