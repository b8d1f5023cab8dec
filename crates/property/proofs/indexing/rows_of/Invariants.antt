use Rattle.std.proofs.Common.{◌≡◌, ◌-◌, ◌≤◌, List, take}
use Rattle.source.specs.Content.{meaning}
use Rattle.property.specs.Fields.{repeated}
use Rattle.property.specs.Indexing.{Carried}
use Rattle.property.specs.Lists.{Property, property_at, indexed}
use Rattle.property.proofs.Carrying.{behind_front}
use Rattle.property.proofs.indexing.rows_of.Given as goal

abbrev pub invariant-loop-i : goal.invariant-loop-i
invariant-loop-i g l =
    let xs = meaning (g.S.Source.content l.initial.source) in
    record {
      same : g.S.Source.content l.source ≡ g.S.Source.content l.initial.source;
      within : l.listed.next ≤ l.end;
      few : l.listed.count ≤ l.i;
      read : (ps : List Property)
          × (repeated (property_at xs l.end) l.count l.place ≡ behind_front ps (repeated (property_at xs l.end) (l.count - l.i) l.listed.next))
          × Carried xs l.end (take l.listed.count l.lent) (indexed ps);
    }
