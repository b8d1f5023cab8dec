-- Edits and asks evaluated at small messages.
use Rattle.std.proofs.Common.{◌≡◌, ℕ, Bool, true, false, cond, eqb, [], Some, None, Ok, Option, refl, ap}
use mathlib.Core.Path.{fun_ext}
use Rattle.source.specs.Bytes.{le, val, part}
use Rattle.source.specs.Outcome.{◌>>=◌, ◌>>◌}
use Rattle.scan.specs.Texts.{before_zero, is_text16}
use Rattle.attribute.specs.Table.{attribute_of}
use Rattle.contents.specs.Options.{exactly}
use Rattle.contents.specs.Contents.{Contents, means, normal}
use Rattle.property.specs.Fields.{field, number_at, sized, repeated, whole, filled}
use Rattle.property.specs.Kinds.{shape_of}
use Rattle.property.specs.Names.{name_string, name_number, name, key_at, one_key}
use Rattle.property.specs.Values.{fixed_value, sized_value, fixed_values, sized_values, values_at}
use Rattle.property.specs.Lists.{property_from, property_at, one_property}
use Rattle.property.specs.Writing.{write_key, write_values, write_property, write_list, write_table}
use Rattle.stream.specs.Messages.{Message}
use Rattle.stream.specs.Writing.{write_entry, attribute_entries, entries_in, written}
use Rattle.message.specs.Examples.{subject_id}
use Rattle.editing.specs.Targets.{attribute_for}
use Rattle.editing.specs.Edits.{held, given_contents, given_property, given_key, change}
use Rattle.editing.specs.Asks.{attribute_asked, property_asked}
use Rattle.editing.specs.Examples.{Worked, all_changed}

abbrev holding_none : (ℕ → Option Contents) → Message
holding_none given = record { primary = 1252; own = record { attributes = given; properties = [] }; rows = []; attachments = [] }

put_and_dropped : {A : Type 0} (b : Bool) (c : A) → cond b None (cond b (Some c) None) ≡ None
put_and_dropped true c = refl
put_and_dropped false c = refl

pub worked : Worked
unfolding le val part ◌>>=◌ ◌>>◌ before_zero is_text16 attribute_of exactly means normal field number_at sized repeated whole filled shape_of name_string name_number name key_at one_key fixed_value sized_value fixed_values sized_values values_at property_from property_at one_property write_key write_values write_property write_list write_table write_entry attribute_entries entries_in written attribute_for held given_contents given_property given_key change attribute_asked property_asked all_changed
worked = record {
  subject_asked = refl;
  subject_written = refl;
  subject_dropped = ap (λ given. Ok (holding_none given)) (fun_ext (λ i. put_and_dropped (eqb subject_id i) _));
  status_asked = refl;
  page_asked = refl;
  page_dropped = refl;
  truth_asked = refl;
  truth_written = refl;
  truth_dropped = refl;
  minus_asked = refl;
  replaced = refl;
  row_asked = refl;
  row_attribute = refl;
  no_row = refl;
  title_asked = refl;
  rendering_asked = refl;
  rendering_dropped = refl;
  missing = refl;
  misplaced = refl;
  unknown = refl;
  not_admitted = refl;
  left_over = refl;
}
