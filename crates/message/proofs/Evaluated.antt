-- The definitions evaluated at small streams.
use Rattle.std.proofs.Common.{◌≡◌, ℕ, Bool, true, false, cond, eqb, [], None, Ok, Option, refl, ap}
use mathlib.Core.Path.{fun_ext}
use Rattle.source.specs.Bytes.{le, val, part}
use Rattle.source.specs.Outcome.{◌>>=◌, ◌>>◌}
use Rattle.scan.specs.Texts.{before_zero, is_text16}
use Rattle.attribute.specs.Table.{attribute_of, version_id, code_page_id}
use Rattle.frame.specs.Frames.{header, head_at, head_judged, sum_judged, frame_at, next_frame}
use Rattle.contents.specs.Options.{exactly}
use Rattle.contents.specs.Contents.{Contents, means, normal}
use Rattle.property.specs.Fields.{field, number_at, sized, repeated, whole, filled}
use Rattle.property.specs.Kinds.{shape_of}
use Rattle.property.specs.Names.{name_string, name_number, name, key_at}
use Rattle.property.specs.Values.{fixed_value, sized_value, fixed_values, sized_values, values_at}
use Rattle.property.specs.Lists.{property_from, property_at, list_at, table_at, property_list, recipient_table}
use Rattle.property.specs.Writing.{write_key, write_values, write_property, write_list, write_table}
use Rattle.stream.specs.Reading.{meant_as, entries_from, entries_at, entries_of}
use Rattle.stream.specs.Messages.{Message, or_else, first, properties_of, rows_of, primary_of, message_part, attachment_parts, read}
use Rattle.stream.specs.Writing.{write_entry, attribute_entries, entries_in, written}
use Rattle.contents.specs.Calendar.{weekday, days_before}
use Rattle.contents.specs.Classes.{pair_number}
use Rattle.message.specs.Examples.{Examples}

abbrev holding_none : (ℕ → Option Contents) → Message
holding_none held = record { primary = 1252; own = record { attributes = held; properties = [] }; rows = []; attachments = [] }

-- Neither of the two frames in front has contents.
none_told : (a b : Bool) → ◌≡◌ {A = Option Contents} (or_else (cond a None None) (or_else (cond b None None) None)) None
none_told true true = refl
none_told true false = refl
none_told false true = refl
none_told false false = refl

pub examples : Examples
unfolding le val part ◌>>=◌ ◌>>◌ weekday days_before pair_number header head_at head_judged sum_judged frame_at next_frame attribute_of meant_as entries_from entries_at entries_of first properties_of rows_of primary_of message_part attachment_parts read means normal before_zero exactly is_text16 field number_at sized repeated whole name_string name_number name key_at fixed_value sized_value fixed_values sized_values values_at property_from property_at list_at table_at property_list recipient_table shape_of filled write_key write_values write_property write_list write_table write_entry attribute_entries entries_in written
examples = record {
  smallest_read = ap (λ held. Ok (holding_none held)) (fun_ext (λ i. none_told (eqb version_id i) (eqb code_page_id i)));
  smallest_written = refl;
  cut = refl;
  damaged = refl;
  earliest = refl;
  written_anew = refl;
  stays = refl;
  left_over = refl;
  meeting = refl;
}
