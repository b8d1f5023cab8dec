-- What changes mean, and what was written, of a source that stayed as it was.
use Rattle.std.proofs.Common.{◌≡◌, ℕ, List, [], map, sym, subst}
use Rattle.std.specs.List.{flat_map}
use Rattle.source.specs.Content.{Content, meaning}
use Rattle.attribute.specs.Table.{recipients_id}
use Rattle.index.specs.declared.attributes.AttributeRow.{AttributeRow}
use Rattle.pen.specs.Pen.{Wrote}
use Rattle.pen.specs.declared.Pen.{Pen}
use Rattle.property.specs.Lists.{indexed}
use Rattle.stream.specs.Messages.{or_default, as_list, as_table}
use Rattle.stream.specs.Writing.{write_entry, list_entries, table_entries}
use Rattle.form.specs.Holdings.{told_in}
use Rattle.editing.specs.Amendments as spec
use Rattle.amend.specs.declared.changes.Slot.{Slot}
use Rattle.amend.specs.declared.changes.Listing.{Listing}
use Rattle.amend.specs.declared.changes.Touch.{Touch}
use Rattle.amend.specs.declared.changes.Change.{Change}
use Rattle.amend.specs.Parts.{properties_after, recipients_after}
use Rattle.amend.specs.Changes.{SlotMeans, ListingMeans, TouchMeans, RowingMeans, AttachingMeans}

module _ {a b : Content} (e : a ≡ b) where
  pub slot_moved : (t : Slot) (σ : spec.Slot) → SlotMeans (meaning b) t σ → SlotMeans (meaning a) t σ
  slot_moved t σ m = subst (λ l. SlotMeans (meaning l) t σ) (sym e) m

  pub listing_moved : (t : Listing) (l : spec.Listing) → ListingMeans (meaning b) t l → ListingMeans (meaning a) t l
  listing_moved t l m = subst (λ k. ListingMeans (meaning k) t l) (sym e) m

  pub touch_moved : {t : Touch} {τ : spec.Touch} → TouchMeans (meaning b) t τ → TouchMeans (meaning a) t τ
  touch_moved {t} {τ} m = subst (λ l. TouchMeans (meaning l) t τ) (sym e) m

  pub rowing_moved : (t : Change Listing) (ρ : spec.Rowing) → RowingMeans (meaning b) t ρ → RowingMeans (meaning a) t ρ
  rowing_moved t ρ m = subst (λ l. RowingMeans (meaning l) t ρ) (sym e) m

  pub attaching_moved : (t : Change Touch) (β : spec.Attaching) → AttachingMeans (meaning b) t β → AttachingMeans (meaning a) t β
  attaching_moved t β m = subst (λ l. AttachingMeans (meaning l) t β) (sym e) m

  -- What was written of a list and of a table.
  module _ (rows : List AttributeRow) {before after : Pen} where
    pub list_moved : (i : ℕ) (l : spec.Listing)
        → Wrote before (flat_map write_entry (list_entries i (spec.list_after l (indexed (or_default (told_in as_list i (meaning a) rows) []))))) after
        → Wrote before (properties_after (meaning b) rows i l) after
    unfolding properties_after
    list_moved i l p = subst (λ k. Wrote before (properties_after (meaning k) rows i l) after) e p

    pub table_moved : (ρ : spec.Rowing)
        → Wrote before (flat_map write_entry (table_entries (spec.rows_after ρ (map indexed (or_default (told_in as_table recipients_id (meaning a) rows) []))))) after
        → Wrote before (recipients_after (meaning b) rows ρ) after
    unfolding recipients_after
    table_moved ρ p = subst (λ k. Wrote before (recipients_after (meaning k) rows ρ) after) e p
