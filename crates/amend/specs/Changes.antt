-- What the changes of the code mean, where the input means ys.
use Rattle.std.specs.Prelude.{◌≡◌, ℕ, Bool, true, false, List, length, Some, None, Option}
use Rattle.attribute.specs.declared.Rule.TheVariants as rule
use Rattle.contents.specs.Contents.{means, code_page}
use Rattle.index.specs.Keys.{key_of}
use Rattle.property.specs.Rows.{Carries}
use Rattle.form.specs.Holdings.{Plain}
use Rattle.editing.specs.Amendments as spec
use Rattle.amend.specs.declared.changes.Slot.{Slot}
use Rattle.amend.specs.declared.changes.Slot.TheVariants.{Kept, Put, Dropped}
use Rattle.amend.specs.declared.changes.Listing.{Listing}
use Rattle.amend.specs.declared.changes.Listing.TheVariants.{Same, With, Less}
use Rattle.amend.specs.declared.changes.Touch.{Touch}
use Rattle.amend.specs.declared.changes.Change.{Change}
use Rattle.amend.specs.declared.changes.Change.TheVariants.{Kept as AsBefore, Added, Removed, Changed}
use Rattle.amend.specs.declared.changes.Amendment.{Amendment}

module _ (ys : List ℕ) where
  abbrev pub SlotMeans : Slot → spec.Slot → Type 0
  SlotMeans Kept spec.kept = Unit {0}
  SlotMeans Kept (spec.put i c) = ⊥
  SlotMeans Kept (spec.dropped i) = ⊥
  SlotMeans (Put a) spec.kept = ⊥
  SlotMeans (Put a) (spec.put i c) = (a.id ≡ i) × Plain a × (means a.rule ys ≡ Some c)
  SlotMeans (Put a) (spec.dropped i) = ⊥
  SlotMeans (Dropped j) spec.kept = ⊥
  SlotMeans (Dropped j) (spec.put i c) = ⊥
  SlotMeans (Dropped j) (spec.dropped i) = j ≡ i

  abbrev pub ListingMeans : Listing → spec.Listing → Type 0
  ListingMeans Same spec.same = Unit {0}
  ListingMeans Same (spec.with_property p) = ⊥
  ListingMeans Same (spec.less_key k) = ⊥
  ListingMeans (With row) spec.same = ⊥
  ListingMeans (With row) (spec.with_property p) = Carries ys (length ys) row p
  ListingMeans (With row) (spec.less_key k) = ⊥
  ListingMeans (Less key) spec.same = ⊥
  ListingMeans (Less key) (spec.with_property p) = ⊥
  ListingMeans (Less key) (spec.less_key k) = key_of key ≡ k

  pub record TouchMeans (t : Touch) (s : spec.Touch) : Type 0 where
    pub slot : SlotMeans t.slot s.slot
    pub listing : ListingMeans t.listing s.listing

  abbrev pub RowingMeans : Change Listing → spec.Rowing → Type 0
  RowingMeans AsBefore spec.as_they_are = Unit {0}
  RowingMeans AsBefore spec.row_added = ⊥
  RowingMeans AsBefore (spec.row_removed r) = ⊥
  RowingMeans AsBefore (spec.row_changed r l) = ⊥
  RowingMeans Added spec.as_they_are = ⊥
  RowingMeans Added spec.row_added = Unit {0}
  RowingMeans Added (spec.row_removed r) = ⊥
  RowingMeans Added (spec.row_changed r l) = ⊥
  RowingMeans (Removed q) spec.as_they_are = ⊥
  RowingMeans (Removed q) spec.row_added = ⊥
  RowingMeans (Removed q) (spec.row_removed r) = q ≡ r
  RowingMeans (Removed q) (spec.row_changed r l) = ⊥
  RowingMeans (Changed q k) spec.as_they_are = ⊥
  RowingMeans (Changed q k) spec.row_added = ⊥
  RowingMeans (Changed q k) (spec.row_removed r) = ⊥
  RowingMeans (Changed q k) (spec.row_changed r l) = (q ≡ r) × ListingMeans k l

  abbrev pub AttachingMeans : Change Touch → spec.Attaching → Type 0
  AttachingMeans AsBefore spec.as_before = Unit {0}
  AttachingMeans AsBefore (spec.attachment_added c) = ⊥
  AttachingMeans AsBefore (spec.attachment_removed k) = ⊥
  AttachingMeans AsBefore (spec.attachment_changed k t) = ⊥
  AttachingMeans Added spec.as_before = ⊥
  AttachingMeans Added (spec.attachment_added c) = means rule.Rendering ys ≡ Some c
  AttachingMeans Added (spec.attachment_removed k) = ⊥
  AttachingMeans Added (spec.attachment_changed k t) = ⊥
  AttachingMeans (Removed l) spec.as_before = ⊥
  AttachingMeans (Removed l) (spec.attachment_added c) = ⊥
  AttachingMeans (Removed l) (spec.attachment_removed k) = l ≡ k
  AttachingMeans (Removed l) (spec.attachment_changed k t) = ⊥
  AttachingMeans (Changed l s) spec.as_before = ⊥
  AttachingMeans (Changed l s) (spec.attachment_added c) = ⊥
  AttachingMeans (Changed l s) (spec.attachment_removed k) = ⊥
  AttachingMeans (Changed l s) (spec.attachment_changed k t) = (l ≡ k) × TouchMeans s t

  abbrev pub PageMeans : Bool → Option ℕ → Type 0
  PageMeans false None = Unit {0}
  PageMeans false (Some n) = ⊥
  PageMeans true None = ⊥
  PageMeans true (Some n) = means rule.CodePage ys ≡ Some (code_page n)

  pub record AmendmentMeans (a : Amendment) (s : spec.Amendment) : Type 0 where
    pub page : PageMeans a.page s.page
    pub own : TouchMeans a.own s.own
    pub rows : RowingMeans a.rows s.rows
    pub attachments : AttachingMeans a.attachments s.attachments
