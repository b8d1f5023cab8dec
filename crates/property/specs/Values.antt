-- The values of a property: of a fixed width, or each behind its size.
use Rattle.std.specs.Prelude.{ℕ, ◌+◌, ◌*◌, Bool, true, false, cond, List, Some, None, Ok, Option, ◌==◌, nat_le}
use Rattle.source.specs.Bytes.{part}
use Rattle.source.specs.Outcome.{Outcome, ◌>>=◌, ◌>>◌, need}
use Rattle.source.specs.declared.refusals.Reason.TheVariants.{FieldEnd, FieldRule}
use Rattle.property.specs.declared.kinds.Kind.{Kind}
use Rattle.property.specs.declared.kinds.Shape.{Shape}
use Rattle.property.specs.Fields.{At, at, padded, repeated, number_at, sized}
use Rattle.property.specs.Kinds.{Value, value, admits, width}

-- The place behind n values of a width, each padded.
unfoldable pub run_end : ℕ → ℕ → ℕ → ℕ → ℕ → Outcome ℕ
unfolding ◌>>◌
run_end end start w n p = do
  need (nat_le (p + n * padded w) end) FieldEnd start
  Ok (p + n * padded w)

module _ (xs : List ℕ) (end start : ℕ) where
  -- One value of a width, padded.
  unfoldable pub fixed_value : Kind → ℕ → ℕ → Outcome (At Value)
  unfolding ◌>>◌
  fixed_value k w p = do
    need (nat_le (p + padded w) end) FieldEnd start
    Ok (at (value k (part xs p w)) (p + padded w))

  -- One value behind its size.
  unfoldable pub sized_value : Kind → ℕ → Outcome (At Value)
  unfolding ◌>>=◌ ◌>>◌
  sized_value k p = do
    s ← sized xs end start p
    need (admits k s.what) FieldRule start
    Ok (at (value k s.what) s.next)

  -- One value, or a count and so many.
  unfoldable pub fixed_values : Kind → ℕ → Bool → ℕ → Outcome (At (List Value))
  unfolding ◌>>=◌
  fixed_values k w false p = repeated (fixed_value k w) 1 p
  fixed_values k w true p = do
    n ← number_at xs end start p 4
    repeated (fixed_value k w) n (p + 4)

  -- A count, which is 1 for a type of one value and not 0 for one of several, and so many values.
  unfoldable pub sized_values : Kind → Bool → ℕ → Outcome (At (List Value))
  unfolding ◌>>=◌ ◌>>◌
  sized_values k several p = do
    n ← number_at xs end start p 4
    need (cond several (nat_le 1 n) (n == 1)) FieldRule start
    repeated (sized_value k) n (p + 4)

  abbrev pub values_of : Option ℕ → Kind → Bool → ℕ → Outcome (At (List Value))
  values_of (Some w) k several p = fixed_values k w several p
  values_of None k several p = sized_values k several p

  unfoldable pub values_at : Shape → ℕ → Outcome (At (List Value))
  values_at t p = values_of (width t.kind) t.kind t.several p
