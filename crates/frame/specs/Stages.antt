-- The order of frames.
use Rattle.std.specs.Prelude.{ℕ, ◌+◌, Bool, true, false, cond, Ok, ◌==◌, nat_lt}
use Rattle.source.specs.Outcome.{Outcome, refused}
use Rattle.source.specs.declared.refusals.Reason.TheVariants.{Misplaced, Limit}
use Rattle.attribute.specs.Table.{version_id, code_page_id, rendering_id}
use Rattle.attribute.specs.declared.Attribute.{Attribute}
use Rattle.frame.specs.declared.stages.Stage.{Stage}
use Rattle.frame.specs.declared.stages.Stage.TheVariants as stage

abbrev pub attachment_limit : ℕ
attachment_limit = 256

-- What a frame is to the order of frames.
pub data Role : Type 0 where
  opens : Role  -- the version
  names_page : Role
  of_message : Role
  begins_attachment : Role
  of_attachment : Role

abbrev pub role : Attribute → Role
role a =
    cond (a.id == version_id) opens
    (cond (a.id == code_page_id) names_page
    (cond (a.id == rendering_id) begins_attachment
    (cond (a.level == 1) of_message of_attachment)))

-- The stage after a frame at p; a frame that may not stand there is refused.
abbrev pub next_stage : Stage → Role → ℕ → Outcome Stage
next_stage stage.Version opens p = Ok stage.CodePage
next_stage stage.Version names_page p = refused Misplaced p
next_stage stage.Version of_message p = refused Misplaced p
next_stage stage.Version begins_attachment p = refused Misplaced p
next_stage stage.Version of_attachment p = refused Misplaced p
next_stage stage.CodePage opens p = refused Misplaced p
next_stage stage.CodePage names_page p = Ok stage.Message
next_stage stage.CodePage of_message p = refused Misplaced p
next_stage stage.CodePage begins_attachment p = refused Misplaced p
next_stage stage.CodePage of_attachment p = refused Misplaced p
next_stage stage.Message opens p = refused Misplaced p
next_stage stage.Message names_page p = refused Misplaced p
next_stage stage.Message of_message p = Ok stage.Message
next_stage stage.Message begins_attachment p = Ok (stage.Attachment 1)
next_stage stage.Message of_attachment p = refused Misplaced p
next_stage (stage.Attachment k) opens p = refused Misplaced p
next_stage (stage.Attachment k) names_page p = refused Misplaced p
next_stage (stage.Attachment k) of_message p = refused Misplaced p
next_stage (stage.Attachment k) begins_attachment p = cond (nat_lt k attachment_limit) (Ok (stage.Attachment (k + 1))) (refused Limit p)
next_stage (stage.Attachment k) of_attachment p = Ok (stage.Attachment k)

abbrev pub may_end : Stage → Bool
may_end stage.Version = false
may_end stage.CodePage = false
may_end stage.Message = true
may_end (stage.Attachment k) = true
