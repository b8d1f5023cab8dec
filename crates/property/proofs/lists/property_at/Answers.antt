use Rattle.std.proofs.Common.{◌≡◌, ℕ, ◌+◌, List, Some, Ok}
use Rattle.index.specs.Keys.{key_of}
use Rattle.index.specs.declared.keys.PropertyKey.{PropertyKey}
use Rattle.property.specs.declared.kinds.Shape.{Shape}
use Rattle.property.specs.Fields.{At, at, number_at}
use Rattle.property.specs.Kinds.{Value, shape_of}
use Rattle.property.specs.Lists.{property_from, property_at}
use Rattle.property.specs.Names.{key_at}
use Rattle.property.specs.Rows.{ReadAt}
use Rattle.property.specs.Values.{values_at}
use Rattle.source.proofs.Outcomes.{over_got}
use Rattle.property.proofs.lists.property_at.Goals as goal

-- The row of a property whose type, key and values were read.
stands : (xs : List ℕ) (end p t n v : ℕ) (s : Shape) (k : PropertyKey) (a : At (List Value)) → Ok t ≡ number_at xs end p p 2 → Some s ≡ shape_of t
    → Ok (at (key_of k) v) ≡ key_at xs end p (p + 2) → (Ok a ≡ values_at xs end p s v) × (n ≡ a.next)
    → ReadAt xs end (property_at xs end p) (Ok (record { key = k; number = t; values = v; next = n }))
unfolding property_at property_from
stands xs end p t n v s k a e f i w =
    (record { key = key_of k; type = t; values = a.what }, rw (← e, ← f, ← i, ← w.0, w.1), (p, rw (← f, ← w.0, w.1)))

pub returns-clause-reads : goal.returns-clause-reads
returns-clause-reads g c =
    let h = c.in_ok-number.ensures in
    let k = c.in_ok-found.ensures in
    let v = c.in_ok-next.ensures in
    let w = over_got _ _ _ (rw (k.same, h.same) at v.reads) in
    let f : Some c.in_ok-shape.shape ≡ shape_of c.in_ok-number.number = cc (c.in_ok-shape.ensures.ok_part) in
    stands _ _ _ _ _ _ _ _ w.0 h.reads f (rw h.same at k.reads) (w.1, w.2)
