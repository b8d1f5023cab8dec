use Rattle.std.proofs.Common.{◌≡◌, ℕ, ◌≤◌, length}
use Rattle.source.specs.Content.{meaning}
use Rattle.property.specs.declared.kinds.Kind.{Kind}
use Rattle.property.specs.Values.{sized_value}
use Rattle.lookup.specs.Listing.{Reaches}
use Rattle.lookup.proofs.values.value_start.Given as goal

abbrev pub invariant-loop : goal.invariant-loop
invariant-loop g l =
    (g.S.Source.content l.source ≡ g.S.Source.content l.initial.source)
    × ((end start : ℕ) (k : Kind) → end ≤ length (meaning (g.S.Source.content l.initial.source))
    → Reaches (sized_value (meaning (g.S.Source.content l.initial.source)) end start k) l.counter l.place l.here)
