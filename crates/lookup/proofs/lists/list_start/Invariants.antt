use Rattle.std.proofs.Common.{◌≡◌}
use Rattle.source.specs.Content.{meaning}
use Rattle.property.specs.Lists.{list_at}
use Rattle.lookup.specs.Listing.{Reaches}
use Rattle.lookup.proofs.lists.list_start.Given as goal

abbrev pub invariant-loop : goal.invariant-loop
invariant-loop g l =
    (g.S.Source.content l.source ≡ g.S.Source.content l.initial.source)
    × Reaches (list_at (meaning (g.S.Source.content l.initial.source)) l.end) l.counter l.place l.here
