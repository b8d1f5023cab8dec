-- Runs of calls on a small draft, so that a mistake in the definitions shows.
use Rattle.std.specs.Prelude.{◌≡◌, ℕ, List, [], ◌∷◌, ◌++◌, map, replicate}
use Rattle.source.specs.Outcome.{refused}
use Rattle.source.specs.declared.refusals.Reason.TheVariants.{ShortWork, Missing, NotWritten, FormTooLong}
use Rattle.attribute.specs.Table.{message_properties_id}
use Rattle.stream.specs.Writing.{write_frame}
use Rattle.message.specs.declared.Target.TheVariants.{Message as to_message}
use Rattle.message.specs.Examples.{smallest, subject_id, two_subjects}
use Rattle.editing.specs.Edits.{Edit, put_attribute, put_property, drop_attribute}
use Rattle.editing.specs.Examples.{status_id, put_subject, truth_given, seven_given}
use Rattle.draft.specs.Drafts.{Memory}
use Rattle.draft.specs.Calls.{State, form}
use Rattle.promise.specs.Runs.{Call, begin, load, edit, look, answer, after}

-- An area of 120 bytes that holds something else, and as much work memory as it asks for.
abbrev pub area : State
area = record { area = replicate 120 0xAA; size = 0 }

abbrev pub memory : Memory
memory = record { bytes = 120; rows = 1024 }

-- The draft after calls, each with that memory.
abbrev pub run : List Call → State
run cs = after (map (λ c. record { memory = memory; call = c }) cs) area

abbrev pub filled : List ℕ → ℕ → List ℕ
filled xs n = xs ++ replicate n 0

abbrev pub subject_frame : List ℕ
subject_frame = write_frame 1 subject_id (0x41 ∷ (0x00 ∷ []))

abbrev pub status_data : List ℕ
status_data = 0x24 ∷ (0x00 ∷ (0x00 ∷ (0x00 ∷ [])))

abbrev pub put_status : Edit
put_status = put_attribute to_message status_id status_data

-- The properties 2, a truth, and 3, the number 7, as they stand in a form.
abbrev pub truth_written : List ℕ
truth_written = 0x0B ∷ (0x00 ∷ (0x02 ∷ (0x00 ∷ (0x01 ∷ (0x00 ∷ (0x00 ∷ (0x00 ∷ [])))))))

abbrev pub two_properties : List ℕ → List ℕ → List ℕ
two_properties xs ys = smallest ++ write_frame 1 message_properties_id (0x02 ∷ (0x00 ∷ (0x00 ∷ (0x00 ∷ (xs ++ ys)))))

pub record WorkedRuns : Type 0 where
  -- A begin leaves the form and zeros.
  pub begun : run (begin 1252 ∷ []) ≡ record { area = filled smallest 80; size = 40 }
  -- A load of two subjects leaves the first, and so does a put of it.
  pub loaded : run (load two_subjects ∷ []) ≡ record { area = filled (smallest ++ subject_frame) 67; size = 53 }
  pub put : run (begin 1252 ∷ (edit put_subject ∷ [])) ≡ run (load two_subjects ∷ [])
  -- A refused edit and a look leave the draft.
  pub kept : run (begin 1252 ∷ (edit (drop_attribute to_message subject_id) ∷ (look ∷ []))) ≡ run (begin 1252 ∷ [])
  pub refused_edit : answer memory (run (begin 1252 ∷ [])) (edit (drop_attribute to_message subject_id)) ≡ refused Missing 0
  -- Puts of two attributes come to one draft in either order.
  pub either_order : run (begin 1252 ∷ (edit put_subject ∷ (edit put_status ∷ []))) ≡ run (begin 1252 ∷ (edit put_status ∷ (edit put_subject ∷ [])))
  pub both_put : form (run (begin 1252 ∷ (edit put_status ∷ (edit put_subject ∷ [])))) ≡ smallest ++ (subject_frame ++ write_frame 1 status_id status_data)
  -- Properties with new keys stand in the order in which they came.
  pub truth_first : form (run (begin 1252 ∷ (edit (put_property to_message truth_given) ∷ (edit (put_property to_message seven_given) ∷ [])))) ≡ two_properties truth_written seven_given
  pub seven_first : form (run (begin 1252 ∷ (edit (put_property to_message seven_given) ∷ (edit (put_property to_message truth_given) ∷ [])))) ≡ two_properties seven_given truth_written
  -- Before a begin or load the area is no form; and there are too little memory and too short an area.
  pub unbegun : answer memory area (edit put_subject) ≡ refused NotWritten 0
  pub short_memory : answer (record { bytes = 119; rows = 1024 }) (run (begin 1252 ∷ [])) (edit put_subject) ≡ refused ShortWork 0
  pub long_form : answer memory (record { area = filled smallest 12; size = 40 }) (edit put_subject) ≡ refused FormTooLong 0
