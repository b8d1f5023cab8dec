use Rattle.std.specs.Prelude.{◌≡◌, ℕ, ◌+◌, ◌<◌, ◌≤◌, List, ◌++◌, length, take, Some, None, Option}
use Rattle.pen.specs.declared.Pen.{Pen}

-- Where bytes are written from a place on, if there is one: the front grows by them, or they do not fit and there is no place any more.
abbrev pub Told : List ℕ → Option ℕ → List ℕ → List ℕ → Option ℕ → Type 0
Told before None bytes after r = r ≡ None
Told before (Some here) bytes after None = length before < here + length bytes
Told before (Some here) bytes after (Some n) = (n ≡ here + length bytes) × (take n after ≡ take here before ++ bytes)

-- What a writer of `bytes` makes of a pen p; what lies past the front of its slice is left open.
pub record Wrote (p : Pen) (bytes : List ℕ) (q : Pen) : Type 0 where
  pub reference : q.out.ghost_name ≡ p.out.ghost_name
  pub kept : length q.out.now ≡ length p.out.now
  pub told : Told p.out.now p.here bytes q.out.now q.here

-- What every writer leaves of a pen p, also where it is given nothing that it can write: the slice is the same, and as long.
pub record SameSlice (p q : Pen) : Type 0 where
  pub reference : q.out.ghost_name ≡ p.out.ghost_name
  pub kept : length q.out.now ≡ length p.out.now

-- Whatever writes `rest` from now on has then written `whole` from where it began: what a loop of writers keeps.
abbrev pub Leads : Pen → List ℕ → Pen → List ℕ → Type 0
Leads start whole now rest = (after : Pen) → Wrote now rest after → Wrote start whole after

-- The place where `size` bytes more begin, where they fit.
abbrev pub RoomFor : Pen → ℕ → Option ℕ → Type 0
RoomFor p size (Some s) = (p.here ≡ Some s) × (s + size ≤ length p.out.now)
RoomFor p size None = (bytes : List ℕ) → length bytes ≡ size → Told p.out.now p.here bytes p.out.now None
