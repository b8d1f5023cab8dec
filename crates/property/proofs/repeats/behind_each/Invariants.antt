use Rattle.std.proofs.Common.{◌≡◌, ℕ, ◌-◌, ◌≤◌, List}
use Rattle.source.specs.Content.{meaning}
use Rattle.source.specs.Outcome.{Outcome}
use Rattle.property.specs.Repeats.{Gives, stepped}
use Rattle.property.proofs.repeats.behind_each.Given as goal

abbrev pub invariant-loop-i : goal.invariant-loop-i
invariant-loop-i g l =
    let xs = meaning (g.S.Source.content l.initial.source) in
    record {
      same : g.S.Source.content l.source ≡ g.S.Source.content l.initial.source;
      within : l.here ≤ l.end;
      reads : (next : List ℕ → ℕ → Outcome ℕ) → Gives g.S.Source.content l.end (goal.F-post g l.one) next
          → stepped (next xs) l.count l.place ≡ stepped (next xs) (l.count - l.i) l.here;
    }
