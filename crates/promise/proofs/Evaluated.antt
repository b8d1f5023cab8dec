-- Runs of calls evaluated on a small draft.
use Rattle.std.proofs.Common.{refl}
use Rattle.source.specs.Bytes.{le, val, part}
use Rattle.source.specs.Outcome.{◌>>=◌, ◌>>◌}
use Rattle.scan.specs.Texts.{before_zero, is_text16}
use Rattle.attribute.specs.Table.{attribute_of}
use Rattle.frame.specs.Frames.{header, head_at, head_judged, sum_judged, frame_at, next_frame}
use Rattle.contents.specs.Options.{exactly}
use Rattle.contents.specs.Contents.{means, normal}
use Rattle.property.specs.Fields.{field, number_at, sized, repeated, whole, filled}
use Rattle.property.specs.Kinds.{shape_of}
use Rattle.property.specs.Names.{name_string, name_number, name, key_at, one_key}
use Rattle.property.specs.Values.{fixed_value, sized_value, fixed_values, sized_values, values_at}
use Rattle.property.specs.Lists.{property_from, property_at, list_at, table_at, one_property, property_list, recipient_table}
use Rattle.property.specs.Writing.{write_key, write_values, write_property, write_list, write_table}
use Rattle.stream.specs.Reading.{meant_as, entries_from, entries_at, entries_of}
use Rattle.stream.specs.Messages.{first, properties_of, rows_of, primary_of, message_part, attachment_parts, read}
use Rattle.stream.specs.Writing.{write_entry, attribute_entries, entries_in, written}
use Rattle.editing.specs.Targets.{attribute_for}
use Rattle.editing.specs.Edits.{held, given_contents, given_property, given_key, change}
use Rattle.draft.specs.Drafts.{fitted, loaded, begun}
use Rattle.draft.specs.Calls.{opened, edited}
use Rattle.promise.specs.Examples.{WorkedRuns}

pub worked_runs : WorkedRuns
unfolding le val part ◌>>=◌ ◌>>◌ before_zero is_text16 attribute_of header head_at head_judged sum_judged frame_at next_frame exactly means normal field number_at sized repeated whole filled shape_of name_string name_number name key_at one_key fixed_value sized_value fixed_values sized_values values_at property_from property_at list_at table_at one_property property_list recipient_table write_key write_values write_property write_list write_table meant_as entries_from entries_at entries_of first properties_of rows_of primary_of message_part attachment_parts read write_entry attribute_entries entries_in written attribute_for held given_contents given_property given_key change fitted loaded begun opened edited
worked_runs = record {
  begun = refl;
  loaded = refl;
  put = refl;
  kept = refl;
  refused_edit = refl;
  either_order = refl;
  both_put = refl;
  truth_first = refl;
  seven_first = refl;
  unbegun = refl;
  short_memory = refl;
  long_form = refl;
}
