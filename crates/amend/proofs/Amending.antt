-- The parts of what is written are the written form of the message after the change.
use Rattle.std.proofs.Common.{◌≡◌, ℕ, List, [], ◌∷◌, ◌++◌, map, Option, sym, refl, ap, ◌∙◌}
use Rattle.std.specs.List.{flat_map, AllByRecursion}
use Rattle.attribute.specs.Table.{attribute_of, message_attributes, message_properties_id, version_id, code_page_id}
use Rattle.frame.specs.Frames.{signature}
use Rattle.frame.specs.declared.stages.Stage.{Stage}
use Rattle.frame.specs.declared.stages.Stage.TheVariants as stage
use Rattle.index.specs.declared.attributes.AttributeRow.{AttributeRow}
use Rattle.stream.specs.Reading.{version, primary, Entry}
use Rattle.stream.specs.Messages.{Message, or_default, rows_of, properties_of, primary_of, message_part, holding_of, message_of}
use Rattle.stream.specs.Writing.{write_entry, attribute_entries, list_entries, table_entries, message_entries, attachment_entries, entries_in, written}
use Rattle.form.specs.Targets.{remaining, Readable, own_part, Gathered, Taken}
use Rattle.form.specs.Wholes.{front_bytes}
use Rattle.form.proofs.Natures.{level_of, Apt, all_apt}
use Rattle.form.proofs.Holds.{joined_append}
use Rattle.form.proofs.Tells.{three_joined, table_same, list_same, own_all, message_plain}
use Rattle.form.proofs.Forms.{assembled, page_told, own_is, own_level, parts_is}
use Rattle.editing.specs.Amendments as spec
use Rattle.editing.specs.Amendments.{slot_after, list_after, rows_after, attachments_after, amended}
use Rattle.amend.specs.Attachments.{attachments_in, attachments_bytes}
use Rattle.amend.specs.Parts.{attributes_after, recipients_after, properties_after, page_after, message_after}
use Rattle.amend.proofs.Touching.{slots_same}

abbrev pager : ℕ → Entry
pager n = record { id = code_page_id; meant = primary n }

-- The entries of a message, by the entries of its part.
abbrev own_after : spec.Touch → spec.Rowing → List Entry → List Entry
own_after τ ρ es =
    attribute_entries message_attributes (slot_after τ.slot (holding_of es).attributes)
    ++ (table_entries (rows_after ρ (rows_of es)) ++ list_entries message_properties_id (list_after τ.listing (properties_of es)))

message_touched : (xs : List ℕ) (es : List Entry) (rs : List AttributeRow) → Gathered xs es rs → AllByRecursion Apt es → AllByRecursion (λ e. level_of e.id ≡ 1) es
    → (τ : spec.Touch) (ρ : spec.Rowing) → message_after xs rs τ ρ ≡ flat_map write_entry (own_after τ ρ es)
unfolding message_after attributes_after recipients_after properties_after rows_of properties_of attribute_of
message_touched xs es rs g apt level τ ρ =
    rw (slots_same xs es rs g apt τ.slot message_attributes message_plain, table_same xs es rs g apt, list_same xs es rs g apt 1 refl level)
    (sym (three_joined (attribute_entries message_attributes (slot_after τ.slot (holding_of es).attributes)) (table_entries (rows_after ρ (rows_of es))) (list_entries message_properties_id (list_after τ.listing (properties_of es)))))

module _ (xs : List ℕ) (rows : List AttributeRow) (q : ℕ) (t : Stage) (good : Readable xs 6 stage.Version) (taken : Taken xs 6 stage.Version rows q t) where
  page_is : (o : Option ℕ) → page_after xs rows o ≡ write_entry (pager (or_default o (primary_of (remaining xs 6 stage.Version))))
  unfolding page_after
  page_is o =
      let (n, a, b) = page_told xs rows q t good taken in
      ap (λ k. write_entry (pager (or_default o (or_default k 0)))) a ∙ ap (λ k. write_entry (pager (or_default o k))) (sym b)

  message_is : (τ : spec.Touch) (ρ : spec.Rowing) → message_after xs rows τ ρ ≡ flat_map write_entry (own_after τ ρ (message_part (remaining xs 6 stage.Version)))
  message_is τ ρ =
      message_touched xs (own_part (remaining xs 6 stage.Version)) rows taken.gathered (own_all Apt _ (all_apt xs _ 6 stage.Version good refl)) (own_level xs rows q t good taken) τ ρ
      ∙ ap (λ es. flat_map write_entry (own_after τ ρ es)) (sym (own_is xs rows q t good taken))

  attachments_are : attachments_in (remaining xs q t) ≡ attachments_in (remaining xs 6 stage.Version)
  unfolding attachments_in
  attachments_are = ap (map holding_of) (parts_is xs rows q t good taken)

  pub form_amended : (α : spec.Amendment)
      → front_bytes ++ (page_after xs rows α.page ++ (message_after xs rows α.own α.rows ++ attachments_bytes (attachments_after α.attachments (attachments_in (remaining xs q t)))))
      ≡ written (amended α (message_of (remaining xs 6 stage.Version)))
  unfolding written entries_in attachments_bytes attachments_in
  form_amended α =
      let m : Message = amended α (message_of (remaining xs 6 stage.Version)) in
      assembled (signature ++ 1 ∷ (0 ∷ [])) (write_entry (record { id = version_id; meant = version })) (page_after xs rows α.page) (write_entry (pager m.primary))
      (message_after xs rows α.own α.rows) (flat_map write_entry (message_entries m))
      (attachments_bytes (attachments_after α.attachments (attachments_in (remaining xs q t)))) (flat_map write_entry (flat_map attachment_entries m.attachments))
      _ (page_is α.page) (message_is α.own α.rows) (ap (λ hs. attachments_bytes (attachments_after α.attachments hs)) attachments_are)
      (sym (joined_append write_entry (message_entries m) (flat_map attachment_entries m.attachments)))
