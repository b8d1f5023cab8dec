-- The parts of what is written of a stream are the written form of the message that it carries.
use Rattle.std.proofs.Common.{◌≡◌, ℕ, List, [], ◌∷◌, ◌++◌, map, Some, sym, refl, ap, ◌∙◌, append_assoc}
use Rattle.std.specs.List.{flat_map, AllByRecursion}
use Rattle.attribute.specs.Table.{attribute_of, message_attributes, message_properties_id, version_id, code_page_id}
use Rattle.frame.specs.Frames.{signature}
use Rattle.frame.specs.declared.stages.Stage.{Stage}
use Rattle.frame.specs.declared.stages.Stage.TheVariants as stage
use Rattle.index.specs.declared.attributes.AttributeRow.{AttributeRow}
use Rattle.stream.specs.Reading.{version, primary, Entry}
use Rattle.stream.specs.Messages.{or_default, as_primary, first, contents_under, properties_of, rows_of, primary_of, message_part, attachment_parts, holding_of, message_of}
use Rattle.stream.specs.Writing.{write_entry, attribute_entries, list_entries, table_entries, message_entries, attachment_entries, entries_in, written}
use Rattle.form.specs.Targets.{remaining, Readable, own_part, past_part, entry_under, Taken}
use Rattle.form.specs.Holdings.{told_by, told_in, page_bytes, message_bytes}
use Rattle.form.specs.Wholes.{front_bytes, Rendered, all_attached}
use Rattle.form.proofs.Natures.{level_of, Apt, all_apt, own_levels}
use Rattle.form.proofs.Holds.{joined_append}
use Rattle.form.proofs.Tells.{own_all, message_same}
use Rattle.form.proofs.Beginnings.{begins, later_parts, past_rendered}

abbrev opener : Entry
opener = record { id = version_id; meant = version }

abbrev pager : ℕ → Entry
pager n = record { id = code_page_id; meant = primary n }

pub assembled : (s v p q m n a b j : List ℕ) → p ≡ q → m ≡ n → a ≡ b → n ++ b ≡ j → (s ++ v) ++ (p ++ (m ++ a)) ≡ s ++ (v ++ (q ++ j))
assembled s v p q m n a b j e f g h = rw (e, f, g, h) (append_assoc s v (q ++ j))

-- The message's entries, by its part.
abbrev own_entries : List Entry → List Entry
own_entries es =
    attribute_entries message_attributes (λ i. first (contents_under i) es)
    ++ (table_entries (rows_of es) ++ list_entries message_properties_id (properties_of es))

module _ (xs : List ℕ) (rows : List AttributeRow) (q : ℕ) (t : Stage) (good : Readable xs 6 stage.Version) (taken : Taken xs 6 stage.Version rows q t) where
  -- The code page is the one that was gathered.
  pub page_told : (n : ℕ) × (told_in as_primary code_page_id xs rows ≡ Some n) × (primary_of (remaining xs 6 stage.Version) ≡ n)
  unfolding own_part message_part primary_of first
  page_told =
      let (n, es, e) = begins xs good in
      (n, ap (told_by as_primary) (taken.gathered.held code_page_id) ∙ ap (λ l. told_by as_primary (entry_under code_page_id (own_part l))) e, ap primary_of e)

  page_is : page_bytes xs rows ≡ write_entry (pager (primary_of (remaining xs 6 stage.Version)))
  unfolding page_bytes
  page_is = let (n, a, b) = page_told in ap (λ o. write_entry (pager (or_default o 0))) a ∙ ap (λ k. write_entry (pager k)) (sym b)

  pub own_is : message_part (remaining xs 6 stage.Version) ≡ own_part (remaining xs 6 stage.Version)
  unfolding own_part message_part
  own_is = let (n, es, e) = begins xs good in rw e

  version_level : level_of version_id ≡ 1
  unfolding attribute_of
  version_level = refl

  pub own_level : AllByRecursion (λ x. level_of x.id ≡ 1) (own_part (remaining xs 6 stage.Version))
  own_level =
      let (n, es, e) = begins xs good in
      let level = own_levels xs 6 stage.Version opener (pager n ∷ es) good e in
      let l : AllByRecursion (λ x. level_of x.id ≡ 1) (own_part (opener ∷ (pager n ∷ es))) = rw version_level at level in
      rw e l

  message_is : message_bytes xs rows ≡ flat_map write_entry (message_entries (message_of (remaining xs 6 stage.Version)))
  message_is =
      message_same xs (own_part (remaining xs 6 stage.Version)) rows taken.gathered (own_all Apt _ (all_apt xs _ 6 stage.Version good refl)) own_level
      ∙ ap (λ es. flat_map write_entry (own_entries es)) (sym own_is)

  pub parts_is : attachment_parts (remaining xs q t) ≡ attachment_parts (remaining xs 6 stage.Version)
  unfolding past_part attachment_parts
  parts_is =
      let (n, es, e) = begins xs good in
      ap attachment_parts taken.rest ∙ ap (λ l. attachment_parts (past_part l)) e ∙ later_parts (pager n ∷ es) ∙ sym (ap attachment_parts e)

  attached_is : all_attached (remaining xs q t) ≡ flat_map write_entry (flat_map attachment_entries (map holding_of (attachment_parts (remaining xs 6 stage.Version))))
  unfolding all_attached
  attached_is = ap (λ l. flat_map write_entry (flat_map attachment_entries (map holding_of l))) parts_is

  pub form_is : front_bytes ++ (page_bytes xs rows ++ (message_bytes xs rows ++ all_attached (remaining xs q t))) ≡ written (message_of (remaining xs 6 stage.Version))
  unfolding written entries_in
  form_is =
      assembled (signature ++ 1 ∷ (0 ∷ [])) (write_entry opener) (page_bytes xs rows) (write_entry (pager (primary_of (remaining xs 6 stage.Version))))
      (message_bytes xs rows) (flat_map write_entry (message_entries (message_of (remaining xs 6 stage.Version))))
      (all_attached (remaining xs q t)) (flat_map write_entry (flat_map attachment_entries (map holding_of (attachment_parts (remaining xs 6 stage.Version)))))
      _ page_is message_is attached_is
      (sym (joined_append write_entry (message_entries (message_of (remaining xs 6 stage.Version))) (flat_map attachment_entries (map holding_of (attachment_parts (remaining xs 6 stage.Version))))))

  pub rest_rendered : Rendered (remaining xs q t)
  rest_rendered = rw taken.rest (past_rendered _)
