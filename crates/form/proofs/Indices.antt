-- Lists that were read, in rows of their index.
use Rattle.std.proofs.Common.{◌≡◌, ℕ, ◌≤◌, min, List, [], length, take, None, Ok, Err, sym, refl, ap, ◌∙◌, arith}
use Rattle.std.specs.Result.{IsOk}
use Rattle.source.specs.Outcome.{Outcome}
use Rattle.attribute.specs.declared.Attribute.{Attribute}
use Rattle.index.specs.declared.attributes.AttributeRow.{AttributeRow}
use Rattle.index.specs.declared.properties.PropertyRow.{PropertyRow}
use Rattle.property.specs.declared.indexing.Listed.{Listed}
use Rattle.property.specs.Fields.{At, at, data_end}
use Rattle.property.specs.Indexing.{Carried, ListedBy, listed}
use Rattle.property.specs.Lists.{Property, list_limit, list_at, indexed}
use Rattle.listform.proofs.ListForms.{list_small, listed_is, list_refused}
use Rattle.listform.proofs.RowForms.{rows_in}
use Rattle.stream.specs.Messages.{or_default, as_list}
use Rattle.form.specs.Targets.{row_under}
use Rattle.form.specs.Holdings.{told_by, told_in}
use Rattle.form.specs.Indices.{ListIndexed}
use Rattle.form.proofs.Found.{row_lost, ListHeld}

-- The list at a place, in rows of its index.
module _ (xs : List ℕ) (end place room : ℕ) (l : end ≤ length xs) (m : list_limit ≤ room) where
  pub indexed_here : (after : List PropertyRow) (r : Listed) → ListedBy xs (data_end xs end) (listed xs (data_end xs end) place room) after (Ok r)
      → (ps : List Property) × (list_at xs end place ≡ Ok (at ps r.next)) × ListIndexed xs (take r.count after) ps × (r.count ≤ length after)
  indexed_here after r (ps, read, size, carried) =
      let e : min end (length xs) ≡ end = omega arith in
      let is : list_at xs end place ≡ Ok (at ps r.next) = sym (listed_is xs end place room l m) ∙ read in
      let carry : Carried xs end (take r.count after) (indexed ps) = rw e at carried in
      let same = (rows_in xs end l (take r.count after) (indexed ps) carry).2 in
      let small = list_small xs end place (at ps r.next) (sym is) in
      (ps, is, record { end = end; within = l; carried = carry; few = omega arith }, size)

  pub indexed_got : (after : List PropertyRow) (o : Outcome Listed) → ListedBy xs (data_end xs end) (listed xs (data_end xs end) place room) after o
      → (a : At (List Property)) → list_at xs end place ≡ Ok a → IsOk o
  indexed_got after (Ok r) e a f = refl
  indexed_got after (Err q) e a f = absurd (list_refused xs end place room l m after q e a f)

-- The list that rows of attributes have under an id.
module _ (xs : List ℕ) (rs : List AttributeRow) (a : Attribute) where
  pub own_held : (r : AttributeRow) (ps : List Property) → ListHeld xs rs a r ps → or_default (told_in as_list a.id xs rs) [] ≡ ps
  own_held r ps h = ap (λ o. or_default o []) h.told

  pub own_none : None ≡ row_under a.id rs → or_default (told_in as_list a.id xs rs) [] ≡ []
  own_none e = ap (λ o. or_default (told_by as_list o) []) (row_lost xs a.id rs e)

pub none_indexed : (xs : List ℕ) (rows : List PropertyRow) → ListIndexed xs (take 0 rows) []
none_indexed xs rows = record { end = 0; within = omega arith; carried = tt; few = omega arith }
