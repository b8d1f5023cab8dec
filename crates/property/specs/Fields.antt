-- Fields of a list. Every reader is given the bytes xs, the place at which the list's data end, the place at which its
-- property begins, where a refusal stands, and the place to read at; it answers what it read and the place behind it.
use Rattle.std.specs.Prelude.{ℕ, zero, suc, ◌+◌, ◌-◌, ◌%◌, min, List, [], ◌∷◌, ◌++◌, length, replicate, Ok, ◌==◌, nat_le}
use Rattle.source.specs.Bytes.{part, val}
use Rattle.source.specs.Outcome.{Outcome, ◌>>=◌, ◌>>◌, need, over}
use Rattle.source.specs.declared.refusals.Reason.TheVariants.{FieldEnd, LeftOver, Limit}

-- How many bytes n are with their padding, which fills them up to a multiple of four.
abbrev pub padded : ℕ → ℕ
padded n = n + (4 - n % 4) % 4

-- Bytes and zeros for their padding.
unfoldable pub filled : List ℕ → List ℕ
filled xs = xs ++ replicate (padded (length xs) - length xs) 0

pub record At (A : Type 0) : Type 0 where
  pub what : A
  pub next : ℕ

abbrev pub at : {A : Type 0} → A → ℕ → At A
at a p = record { what = a; next = p }

-- Only the place behind what was read.
abbrev pub behind : {A : Type 0} → Outcome (At A) → Outcome ℕ
behind o = over (λ a. a.next) o

-- Only whether it was read.
abbrev pub done : {A : Type 0} → Outcome A → Outcome (Unit {0})
done o = over (λ _. tt) o

-- n readings in a row.
unfoldable pub repeated : {A : Type 0} → (ℕ → Outcome (At A)) → ℕ → ℕ → Outcome (At (List A))
repeated read zero p = Ok (at [] p)
repeated read (suc n) p = do
  a ← read p
  rest ← repeated read n a.next
  Ok (at (a.what ∷ rest.what) rest.next)

-- All of the data, up to their end.
unfoldable pub whole : {A : Type 0} → ℕ → At A → Outcome A
unfolding ◌>>◌
whole end a = do
  need (a.next == end) LeftOver a.next
  Ok a.what

-- Data end at the latest where the bytes end.
abbrev pub data_end : List ℕ → ℕ → ℕ
data_end xs end = min end (length xs)

module _ (xs : List ℕ) (end start : ℕ) where
  unfoldable pub field : ℕ → ℕ → Outcome (List ℕ)
  unfolding ◌>>◌
  field p n = do
    need (nat_le (p + n) end) FieldEnd start
    Ok (part xs p n)

  unfoldable pub number_at : ℕ → ℕ → Outcome ℕ
  number_at p n = over val (field p n)

  -- A count, of no more than the limit.
  unfoldable pub count_at : ℕ → ℕ → Outcome ℕ
  unfolding ◌>>=◌ ◌>>◌
  count_at limit p = do
    n ← number_at p 4
    need (nat_le n limit) Limit start
    Ok n

  -- A size, its bytes and their padding.
  unfoldable pub sized : ℕ → Outcome (At (List ℕ))
  unfolding ◌>>=◌ ◌>>◌
  sized p = do
    n ← number_at p 4
    need (nat_le (p + 4 + padded n) end) FieldEnd start
    Ok (at (part xs (p + 4) n) (p + 4 + padded n))
