-- The whole promise of drafts.
use Rattle.std.specs.Prelude.{◌≡◌, true, List, map, length, Ok}
use Rattle.stream.specs.Messages.{Message}
use Rattle.stream.specs.Writing.{written}
use Rattle.message.specs.declared.Target.{Target}
use Rattle.message.specs.Promise.{FormsDecide}
use Rattle.message.specs.Sameness.{IsMessage}
use Rattle.draft.specs.Drafts.{Memory, enough, loaded}
use Rattle.draft.specs.Calls.{State, form}
use Rattle.draft.specs.Promise.{LoadsDecide}
use Rattle.promise.specs.Runs.{Step, leaves, loading, Accepted, after, AllAccepted, Starts, Possible, AllPossible}
use Rattle.promise.specs.Commuting.{item, Given, steps, Reordered, Distinct, kept, brings}

abbrev pub RunsReload : Type 0
RunsReload =
    (s : Step) → Starts s.call → Possible s.call → (a : State) → Accepted s a → (ss : List Step) → AllPossible ss
    → (w : Memory) (b : State) → length b.area ≡ length a.area → enough w (length b.area) ≡ true →
    let d : State = after ss (leaves s a) in
    (loaded w (length b.area) (form d) ≡ Ok (form d)) × (leaves (loading w (form d)) b ≡ d)

abbrev pub EditsCommute : Type 0
EditsCommute =
    (m : Message) (d : State) → IsMessage m → form d ≡ written m → (gs hs : List Given) → AllPossible (steps gs)
    → Reordered gs hs → Distinct (map (λ g. item g.touch) gs)
    → ((t : Target) → kept (λ g. brings m t g.touch) gs ≡ kept (λ g. brings m t g.touch) hs)
    → AllAccepted (steps gs) d → AllAccepted (steps hs) d → after (steps gs) d ≡ after (steps hs) d

pub record Canonical : Type 0 where
  -- Two messages have equal written forms exactly when they are the same.
  pub forms_decide : FormsDecide
  -- Two accepted loads write the forms of the messages that their sources carry, and equal bytes exactly for the same message.
  pub loads_decide : LoadsDecide
  -- After any run of calls from an accepted begin or load, loading the form into an area as long is accepted and leaves the same draft.
  pub runs_reload : RunsReload
  -- Puts and drops of different items leave the same draft in another order, if the property puts that bring new keys to a
  -- target keep theirs, and all are accepted either way.
  pub edits_commute : EditsCommute
