-- The key of a property: its id, and from 0x8000 on its name.
use Rattle.std.specs.Prelude.{ℕ, ◌+◌, cond, ◌&&◌, List, length, Ok, ◌==◌, nat_le, nat_lt}
use Rattle.source.specs.Outcome.{Outcome, ◌>>=◌, ◌>>◌, need}
use Rattle.source.specs.declared.refusals.Reason.TheVariants.{FieldRule}
use Rattle.scan.specs.Texts.{is_text16}
use Rattle.index.specs.Keys.{Key, tag, numbered, named}
use Rattle.index.specs.Limits.{name_limit}
use Rattle.property.specs.Fields.{At, at, field, number_at, sized, whole}

-- The lowest id that has a name.
abbrev pub first_named : ℕ
first_named = 0x8000

module _ (xs : List ℕ) (end start : ℕ) where
  unfoldable pub name_string : List ℕ → ℕ → Outcome (At Key)
  unfolding ◌>>=◌ ◌>>◌
  name_string g p = do
    s ← sized xs end start p
    need (nat_le (length s.what) name_limit && is_text16 s.what) FieldRule start
    Ok (at (named g s.what) s.next)

  unfoldable pub name_number : List ℕ → ℕ → Outcome (At Key)
  unfolding ◌>>=◌
  name_number g p = do
    n ← number_at xs end start p 4
    Ok (at (numbered g n) (p + 4))

  -- A GUID, a kind, and a number or a string.
  unfoldable pub name : ℕ → Outcome (At Key)
  unfolding ◌>>=◌ ◌>>◌
  name p = do
    g ← field xs end start p 16
    k ← number_at xs end start (p + 16) 4
    need (nat_le k 1) FieldRule start
    cond (k == 0) (name_number g (p + 20)) (name_string g (p + 20))

  unfoldable pub key_at : ℕ → Outcome (At Key)
  unfolding ◌>>=◌
  key_at p = do
    i ← number_at xs end start p 2
    cond (nat_lt i first_named) (Ok (at (tag i) (p + 2))) (name (p + 2))

-- The data from base to end as one key.
unfoldable pub one_key : List ℕ → ℕ → ℕ → Outcome Key
unfolding ◌>>=◌
one_key xs base end = do
  k ← key_at xs end base base
  whole end k
