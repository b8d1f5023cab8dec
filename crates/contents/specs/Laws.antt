-- The two laws of the rules.
use Rattle.std.specs.Prelude.{◌≡◌, ℕ, true, ◌↔◌, List}
use Rattle.source.specs.Bytes.{Octets}
use Rattle.attribute.specs.declared.Rule.{Rule}
use Rattle.contents.specs.Contents.{means, admits, normal_data}

-- Normal data are admitted, and mean what the data mean that they come from.
abbrev pub NormalMeansSame : Type 0
NormalMeansSame =
    (ρ : Rule) (d : List ℕ) → Octets d → admits ρ d ≡ true
    → (admits ρ (normal_data ρ d) ≡ true) × (means ρ (normal_data ρ d) ≡ means ρ d)

-- Two admitted data mean the same exactly where their normal data are equal.
abbrev pub NormalDecides : Type 0
NormalDecides =
    (ρ : Rule) (d e : List ℕ) → Octets d → Octets e → admits ρ d ≡ true → admits ρ e ≡ true
    → (means ρ d ≡ means ρ e) ↔ (normal_data ρ d ≡ normal_data ρ e)
