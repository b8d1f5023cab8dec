-- Frames around data that are written first.
use Rattle.std.specs.Prelude.{◌≡◌, ℕ, ◌+◌, ◌-◌, ◌<◌, ◌≤◌, List, ◌++◌, length, take, drop, Some, None, Option}
use Rattle.source.specs.Bytes.{part}
use Rattle.pen.specs.Pen.{Told}
use Rattle.pen.specs.declared.Pen.{Pen}
use Rattle.stream.specs.Writing.{write_frame}

-- A list with `bytes` in the place of those from `here` on.
unfoldable pub placed : List ℕ → ℕ → List ℕ → List ℕ
placed before here bytes = take here before ++ (bytes ++ drop (here + length bytes) before)

-- A frame around data.
unfoldable pub framed : (level id : ℕ) → List ℕ → List ℕ
framed level id xs = write_frame level id xs

-- The place behind the nine bytes that a frame begins with, if they fit.
abbrev pub Begins : List ℕ → Option ℕ → Option ℕ → Type 0
Begins before None r = r ≡ None
Begins before (Some start) None = length before < start + 9
Begins before (Some start) (Some n) = (n ≡ start + 9) × (n ≤ length before)

-- A pen p that is moved on to where a frame's data are to stand, and where the frame begins.
pub record Opened (p : Pen) (start : Option ℕ) (q : Pen) : Type 0 where
  pub reference : q.out.ghost_name ≡ p.out.ghost_name
  pub same : q.out.now ≡ p.out.now
  pub from : start ≡ p.here
  pub place : Begins p.out.now p.here q.here

-- What a frame is closed around.
abbrev pub Closable : List ℕ → Option ℕ → Option ℕ → Type 0
Closable before None end = Unit {0}
Closable before (Some start) None = Unit {0}
Closable before (Some start) (Some end) = (start + 9 ≤ end) × (end ≤ length before)

abbrev pub Sealed : List ℕ → Option ℕ → Option ℕ → ℕ → ℕ → List ℕ → Option ℕ → Type 0
Sealed before None end level id after r = r ≡ None
Sealed before (Some start) None level id after r = r ≡ None
Sealed before (Some start) (Some end) level id after r =
    Told before (Some start) (framed level id (part before (start + 9) (end - (start + 9)))) after r

-- A pen p behind a frame's data, and what closing the frame makes of it.
pub record Closed (p : Pen) (start : Option ℕ) (level id : ℕ) (q : Pen) : Type 0 where
  pub reference : q.out.ghost_name ≡ p.out.ghost_name
  pub kept : length q.out.now ≡ length p.out.now
  pub told : Sealed p.out.now start p.here level id q.out.now q.here
