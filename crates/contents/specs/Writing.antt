-- Writing normal data.
use Rattle.std.specs.Prelude.{◌≡◌, ℕ, ◌-◌, true, cond, ◌&&◌, List, None, Ok, Err, Option, nat_le}
use Rattle.source.specs.Bytes.{part}
use Rattle.source.specs.Outcome.{Outcome}
use Rattle.scan.specs.Scans.{asked}
use Rattle.pen.specs.Pen.{Wrote}
use Rattle.pen.specs.declared.Pen.{Pen}
use Rattle.attribute.specs.declared.Rule.{Rule}
use Rattle.contents.specs.Contents.{admits, normal_data}

-- What writes the normal data of the `size` bytes of xs from `place` on: where the rule admits them, it writes exactly those.
abbrev pub Written : Rule → List ℕ → (place size : ℕ) → Pen → Pen → Type 0
Written ρ xs place size before after =
    asked (admits ρ) xs place size ≡ Ok true → Wrote before (normal_data ρ (part xs place size)) after

-- What was read, if anything was.
abbrev pub known : {A : Type 0} → Outcome (Option A) → Option A
known (Ok o) = o
known (Err e) = None

-- 'A' to 'F' for 'a' to 'f'; other bytes stay.
abbrev pub upper : ℕ → ℕ
upper b = cond (nat_le 97 b && nat_le b 102) (b - 32) b
