-- The frames around what lists become, and what is written of their rows.
use Rattle.std.proofs.Common.{◌≡◌, ℕ, ◌-◌, List, [], ◌∷◌, length, take, Some, refl, ap, ◌∙◌, append-nil, arith}
use native.Mathlib.Nat.{sub-zero}
use Rattle.std.specs.List.{flat_map}
use Rattle.attribute.specs.Table.{attribute_of}
use Rattle.attribute.specs.declared.Attribute.{Attribute}
use Rattle.index.specs.declared.properties.PropertyRow.{PropertyRow}
use Rattle.property.specs.Lists.{Property, indexed}
use Rattle.property.specs.Writing.{write_list}
use Rattle.stream.specs.Writing.{level_in, write_entry, list_entries}
use Rattle.form.specs.Framing.{framed}
use Rattle.form.specs.Indices.{ListIndexed}
use Rattle.editing.specs.Amendments as spec
use Rattle.editing.specs.Amendments.{list_after}
use Rattle.amend.specs.Changes.{ListingMeans}
use Rattle.amend.specs.Cuts.{cut_of}
use Rattle.amend.specs.declared.changes.Listing.{Listing}
use Rattle.amend.specs.declared.cuts.Cut.{Cut}
use Rattle.amend.proofs.Cutting.{cut_writes, CutWrites}

-- The frame of a list.
pub list_framed : (a : Attribute) → attribute_of a.id ≡ Some a → (ps : List Property) → (length ps ≡ 0 → ⊥)
    → flat_map write_entry (list_entries a.id ps) ≡ framed a.level a.id (write_list ps)
unfolding write_entry framed
list_framed a known [] n = absurd (n refl)
list_framed a known (p ∷ ps) n = append-nil _ ∙ ap (λ o. framed (level_in o) a.id (write_list (p ∷ ps))) known

pub list_empty : (i : ℕ) (ps : List Property) → length ps ≡ 0 → flat_map write_entry (list_entries i ps) ≡ []
list_empty i [] e = refl
list_empty i (p ∷ ps) e = absurd (omega arith)

-- What is written of the first n of lent rows, where a change cuts them.
pub indexed_cut : (xs ys : List ℕ) (lent : List PropertyRow) (n : ℕ) (ps : List Property) → ListIndexed xs (take n lent) ps
    → (listing : Listing) (k : spec.Listing) → ListingMeans ys listing k → (c : Cut) → c ≡ cut_of (take (n - 0) lent) listing
    → CutWrites xs ys (take (n - 0) lent) c (list_after k (indexed ps))
indexed_cut xs ys lent n ps i listing k m c e =
    let h : ListIndexed xs (take (n - 0) lent) ps = rw sub-zero i in
    cut_writes xs ys h.end h.within (take (n - 0) lent) (indexed ps) h.carried h.few listing k m c e
