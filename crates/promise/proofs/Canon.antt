-- The whole promise.
use Rattle.message.proofs.Forms.{forms_decide}
use Rattle.draft.proofs.Deciding.{loads_decide}
use Rattle.promise.specs.Canonical.{Canonical}
use Rattle.promise.proofs.Reloading.{runs_reload}
use Rattle.promise.proofs.Reordering.{edits_commute}

pub canonical : Canonical
canonical = record { forms_decide = forms_decide; loads_decide = loads_decide; runs_reload = runs_reload; edits_commute = edits_commute }
