-- What a change makes of all rows of a table: how many there are, and what is written of them.
use Rattle.std.proofs.Common.{◌≡◌, ℕ, zero, suc, ◌+◌, ◌-◌, ◌<◌, cond, ltb, List, [], ◌∷◌, ◌++◌, length, None, sym, refl, ap, ◌∙◌, inl, inr, append-nil, arith}
use Rattle.std.specs.List.{flat_map}
use Rattle.std.proofs.lemmas.List.{length-append}
use Rattle.std.proofs.lemmas.Bool.{cases_lt, eq-eqb, ne_eqb, lt-ltb, le-ltb}
use Rattle.source.specs.Bytes.{le}
use Rattle.attribute.specs.Table.{attribute_of, recipients_id}
use Rattle.index.specs.declared.attributes.AttributeRow.{AttributeRow}
use Rattle.property.specs.Fields.{repeated}
use Rattle.property.specs.Lists.{Property}
use Rattle.property.specs.Writing.{write_list, write_table}
use Rattle.listform.specs.Forms.{number_there}
use Rattle.listform.proofs.ListForms.{table_in, table_small}
use Rattle.stream.specs.Messages.{or_default, as_table}
use Rattle.stream.specs.Writing.{write_entry, table_entries}
use Rattle.form.specs.Framing.{framed}
use Rattle.form.specs.Holdings.{told_by, told_in}
use Rattle.form.specs.Targets.{row_under}
use Rattle.form.proofs.Found.{row_lost, TableHeld}
use Rattle.form.proofs.Holds.{joined_append}
use Rattle.editing.specs.Amendments as spec
use Rattle.editing.specs.Amendments.{list_after, rows_after, nth_list}
use Rattle.editing.specs.Slots.{change_nth, without_nth}
use Rattle.amend.specs.Changes.{RowingMeans}
use Rattle.amend.specs.Tables.{rows_from, added_bytes, count_after, TableRead}
use Rattle.amend.specs.declared.changes.Change.{Change}
use Rattle.amend.specs.declared.changes.Change.TheVariants.{Kept, Added, Removed, Changed}
use Rattle.amend.specs.declared.changes.Listing.{Listing}

-- Rows that stay as they are: all, or all behind the one that is left out or changed.
all_stay : (i : ℕ) (rs : List (List Property)) → rows_from spec.as_they_are i rs ≡ rs
all_stay i [] = refl
all_stay i (ps ∷ rs) = ap (λ l. ps ∷ l) (all_stay (i + 1) rs)

all_stay_added : (i : ℕ) (rs : List (List Property)) → rows_from spec.row_added i rs ≡ rs
all_stay_added i [] = refl
all_stay_added i (ps ∷ rs) = ap (λ l. ps ∷ l) (all_stay_added (i + 1) rs)

past_removed : (r i : ℕ) (rs : List (List Property)) → r < i → rows_from (spec.row_removed r) i rs ≡ rs
past_removed r i [] h = refl
past_removed r i (ps ∷ rs) h = rw (ne_eqb i r (λ e. omega arith)) (ap (λ l. ps ∷ l) (past_removed r (i + 1) rs (omega arith)))

past_changed : (r : ℕ) (k : spec.Listing) (i : ℕ) (rs : List (List Property)) → r < i → rows_from (spec.row_changed r k) i rs ≡ rs
past_changed r k i [] h = refl
past_changed r k i (ps ∷ rs) h = rw (ne_eqb i r (λ e. omega arith)) (ap (λ l. ps ∷ l) (past_changed r k (i + 1) rs (omega arith)))

removed_from : (n r i : ℕ) (rs : List (List Property)) → n ≡ i + r → rows_from (spec.row_removed n) i rs ≡ without_nth rs r
removed_from n r i [] e = refl
removed_from n zero i (ps ∷ rs) e = rw (eq-eqb i n (omega arith)) (past_removed n (i + 1) rs (omega arith))
removed_from n (suc r) i (ps ∷ rs) e = rw (ne_eqb i n (λ d. omega arith)) (ap (λ l. ps ∷ l) (removed_from n r (i + 1) rs (omega arith)))

changed_from : (k : spec.Listing) (n r i : ℕ) (rs : List (List Property)) → n ≡ i + r
    → rows_from (spec.row_changed n k) i rs ≡ change_nth rs r (list_after k (nth_list rs r))
changed_from k n r i [] e = refl
changed_from k n zero i (ps ∷ rs) e = rw (eq-eqb i n (omega arith)) (ap (λ l. list_after k ps ∷ l) (past_changed n k (i + 1) rs (omega arith)))
changed_from k n (suc r) i (ps ∷ rs) e = rw (ne_eqb i n (λ d. omega arith)) (ap (λ l. ps ∷ l) (changed_from k n r (i + 1) rs (omega arith)))

-- All rows are written, and what is added behind them.
list_none : write_list [] ++ [] ≡ le 4 0
unfolding write_list
list_none = append-nil _ ∙ append-nil _

length_removed : (r : ℕ) (rs : List (List Property)) → length (without_nth rs r) ≡ cond (ltb r (length rs)) (length rs - 1) (length rs)
length_removed r [] = rw (le-ltb r 0 (omega arith))
length_removed zero (ps ∷ rs) = rw (lt-ltb 0 (suc (length rs)) (omega arith)) (omega arith)
length_removed (suc r) (ps ∷ rs) =
    elim (cases_lt r (length rs)) [
      | inl h ↦ ap suc (length_removed r rs) ∙ rw (lt-ltb r (length rs) h, lt-ltb (suc r) (suc (length rs)) (omega arith)) (omega arith)
      | inr h ↦ ap suc (length_removed r rs) ∙ rw (le-ltb r (length rs) h, le-ltb (suc r) (suc (length rs)) (omega arith))
    ]

length_changed : (r : ℕ) (qs : List Property) (rs : List (List Property)) → length (change_nth rs r qs) ≡ length rs
length_changed r qs [] = refl
length_changed zero qs (ps ∷ rs) = refl
length_changed (suc r) qs (ps ∷ rs) = ap suc (length_changed r qs rs)

pub record AllRows (rowing : Change Listing) (ρ : spec.Rowing) (rs : List (List Property)) : Type 0 where
  pub count : count_after rowing (length rs) ≡ length (rows_after ρ rs)
  pub bytes : flat_map write_list (rows_from ρ 0 rs) ++ added_bytes rowing ≡ flat_map write_list (rows_after ρ rs)

pub all_rows : (ys : List ℕ) (rowing : Change Listing) (ρ : spec.Rowing) → RowingMeans ys rowing ρ → (rs : List (List Property)) → AllRows rowing ρ rs
all_rows ys Kept spec.as_they_are m rs = record { count = refl; bytes = append-nil _ ∙ ap (flat_map write_list) (all_stay 0 rs) }
all_rows ys Kept spec.row_added m rs = absurd m
all_rows ys Kept (spec.row_removed r) m rs = absurd m
all_rows ys Kept (spec.row_changed r l) m rs = absurd m
all_rows ys Added spec.as_they_are m rs = absurd m
all_rows ys Added spec.row_added m rs = record {
  count = sym (simp length-append);
  bytes = rw (all_stay_added 0 rs, joined_append write_list rs ([] ∷ [])) (ap (λ l. flat_map write_list rs ++ l) (sym list_none));
}
all_rows ys Added (spec.row_removed r) m rs = absurd m
all_rows ys Added (spec.row_changed r l) m rs = absurd m
all_rows ys (Removed q) spec.as_they_are m rs = absurd m
all_rows ys (Removed q) spec.row_added m rs = absurd m
all_rows ys (Removed q) (spec.row_removed r) m rs =
    record { count = rw m (sym (length_removed r rs)); bytes = append-nil _ ∙ ap (flat_map write_list) (removed_from r r 0 rs (omega arith)) }
all_rows ys (Removed q) (spec.row_changed r l) m rs = absurd m
all_rows ys (Changed q k) spec.as_they_are m rs = absurd m
all_rows ys (Changed q k) spec.row_added m rs = absurd m
all_rows ys (Changed q k) (spec.row_removed r) m rs = absurd m
all_rows ys (Changed q k) (spec.row_changed r l) m rs =
    record { count = sym (length_changed r _ rs); bytes = append-nil _ ∙ ap (flat_map write_list) (changed_from l r r 0 rs (omega arith)) }

-- The table that rows of attributes have.
module _ (xs : List ℕ) (rs : List AttributeRow) where
  pub table_there : (r : AttributeRow) (ts : List (List Property)) → TableHeld xs rs r ts → (n : ℕ) → n ≡ number_there xs r.place
      → TableRead xs (record { count = n; place = r.place + 4; end = r.place + r.size }) (or_default (told_in as_table recipients_id xs rs) [])
  table_there r ts h n e =
      let (fits, counted, reads) = table_in xs (r.place + r.size) r.place ts h.reads in
      let small = table_small xs (r.place + r.size) r.place ts h.reads in
      rw (ap (λ o. or_default o []) h.told, e) (record { within = h.within; counted = counted; few = omega arith; reads = reads })

  pub table_none : None ≡ row_under recipients_id rs
      → TableRead xs (record { count = 0; place = 0; end = 0 }) (or_default (told_in as_table recipients_id xs rs) [])
  unfolding repeated
  table_none e =
      rw (ap (λ o. or_default (told_by as_table o) []) (row_lost xs recipients_id rs e)) (record { within = omega arith; counted = refl; few = omega arith; reads = refl })

-- The frame of a table.
pub table_framed : (rs : List (List Property)) → (length rs ≡ 0 → ⊥) → flat_map write_entry (table_entries rs) ≡ framed 1 recipients_id (write_table rs)
unfolding write_entry framed attribute_of
table_framed [] n = absurd (n refl)
table_framed (r ∷ rs) n = append-nil _

pub table_empty : (rs : List (List Property)) → length rs ≡ 0 → flat_map write_entry (table_entries rs) ≡ []
table_empty [] e = refl
table_empty (r ∷ rs) e = absurd (omega arith)

-- The count and the rows, as a table.
pub table_of : (rs : List (List Property)) (n : ℕ) (bs : List ℕ) → n ≡ length rs → bs ≡ flat_map write_list rs → le 4 n ++ bs ≡ write_table rs
unfolding write_table
table_of rs n bs e f = rw (e, f)
