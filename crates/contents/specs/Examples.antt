-- Worked examples.
use Rattle.std.specs.Prelude.{◌≡◌, ℕ, ◌+◌, true, false, List, [], ◌∷◌, ◌++◌, Some, codes}
use Rattle.source.specs.Bytes.{le}
use Rattle.attribute.specs.declared.Rule.TheVariants as rule
use Rattle.contents.specs.declared.dates.Date.{Date}
use Rattle.contents.specs.Calendar.{weekday}
use Rattle.contents.specs.Classes.{Pair, pairs, old_prefix}
use Rattle.contents.specs.Status.{status_of, flags}
use Rattle.contents.specs.Contents.{text, class, status, means, admits}

abbrev pub day : (year month day : ℕ) → Date
day y m d = record { year = y; month = m; day = d; hour = 0; minute = 0; second = 0 }

-- A day at midnight as data, with weekday 0.
abbrev pub day_data : (year month day : ℕ) → List ℕ
day_data y m d = le 2 y ++ le 2 m ++ le 2 d ++ le 2 0 ++ le 2 0 ++ le 2 0 ++ le 2 0

abbrev pub closed : List ℕ → List ℕ
closed t = t ++ 0 ∷ []

-- Each pair, from number k on, is meant by its attribute value, by its property value, and by the old prefix and the attribute value.
abbrev pub Spelled : List Pair → ℕ → Type 0
Spelled [] k = Unit {0}
Spelled (p ∷ ps) k =
    (means rule.Class (closed p.0) ≡ Some (class k))
    × (means rule.Class (closed p.1) ≡ Some (class k))
    × (means rule.Class (closed (old_prefix ++ p.0)) ≡ Some (class k))
    × Spelled ps (k + 1)

pub record Worked : Type 0 where
  pub tuesday : weekday (day 2004 2 17) ≡ 2
  pub sunday : weekday (day 2008 1 13) ≡ 0
  pub no_leap_day : admits rule.Date (day_data 1900 2 29) ≡ false
  pub leap_day : admits rule.Date (day_data 2000 2 29) ≡ true
  pub read_and_submitted : means rule.Status (0x24 ∷ (0 ∷ (0 ∷ (0 ∷ [])))) ≡ Some (status (status_of 0x24))
  pub seven : flags (status_of 0x24) ≡ 7
  pub old_property : means rule.Class (closed (codes "Microsoft Mail v3.0IPM.Note")) ≡ Some (text (codes "Microsoft Mail v3.0IPM.Note"))
  pub old_attribute : means rule.Class (closed (codes "Microsoft Mail v3.0IPM.Microsoft Mail.Note")) ≡ Some (class 1)
  pub spelled : Spelled pairs 1
