use Rattle.std.specs.Prelude.{◌≡◌, ℕ, ◌+◌, ◌<◌, ◌≤◌, List, length, take, drop, Ok, Err, Result}
use Rattle.source.specs.declared.refusals.Refusal.{Refusal}
use Rattle.source.specs.declared.refusals.Reason.TheVariants.{SourceEnd}

-- What a fetch at `place` from a source that means `xs` does to a buffer, `before` and `after`: it is filled from there, or
-- stays as it was where the source ends too early.
abbrev pub Fetched : List ℕ → ℕ → List ℕ → List ℕ → Result (Unit {0}) Refusal → Type 0
Fetched xs place before after (Ok x) = (place + length before ≤ length xs) × (after ≡ take (length before) (drop place xs))
Fetched xs place before after (Err e) =
    (length xs < place + length before) × (after ≡ before) × (e ≡ record { reason = SourceEnd; place = 0 })
