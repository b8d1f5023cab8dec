-- What the data of an attribute mean under its rule, and the normal data of what they mean.
use Rattle.std.specs.Prelude.{ℕ, ◌-◌, Bool, not, ◌&&◌, ◌||◌, List, [], ◌∷◌, ◌++◌, map, is_some, Some, None, Option, ◌==◌, nat_le}
use Rattle.source.specs.Bytes.{part, val, le, same_bytes}
use Rattle.scan.specs.Texts.{also, before_zero}
use Rattle.attribute.specs.declared.Rule.{Rule}
use Rattle.attribute.specs.declared.Rule.TheVariants as rule
use Rattle.contents.specs.declared.dates.Date.{Date}
use Rattle.contents.specs.declared.statuses.Status.{Status}
use Rattle.contents.specs.Options.{where_true, then, exactly, number}
use Rattle.contents.specs.Calendar.{date_of, weekday}
use Rattle.contents.specs.Classes.{pairs, pair_number, class_text}
use Rattle.contents.specs.Digits.{digit_pairs, capital}
use Rattle.contents.specs.Status.{status_in, status_bits, flag}

pub data Contents : Type 0 where
  text : List ℕ → Contents  -- the bytes before the closing zero
  class : ℕ → Contents  -- one of the eight pairs, 1 to 8
  date : Date → Contents
  digits : List ℕ → Contents  -- the numbers of the hexadecimal digits
  status : Status → Contents
  importance : ℕ → Contents
  truth : Bool → Contents
  raw : List ℕ → Contents
  rendering : (kind position width height flags : ℕ) → Contents
  version : Contents
  code_page : ℕ → Contents  -- the primary number

-- A text that means no pair means itself.
abbrev pub class_or : List ℕ → Option ℕ → Contents
class_or t (Some k) = class k
class_or t None = text t

abbrev pub class_of : List ℕ → Contents
class_of t = class_or t (pair_number t)

-- Two bytes: 3, 2 and 1 mean 0, 1 and 2.
abbrev pub ranked : ℕ → Option ℕ
ranked n = where_true (nat_le 1 n && nat_le n 3) (3 - n)

abbrev pub importance_in : List ℕ → Option ℕ
importance_in xs = then (number 2 xs) ranked

-- Two bytes: zero means no, any other number yes.
abbrev pub nonzero : ℕ → Bool
nonzero n = not (n == 0)

abbrev pub truth_in : List ℕ → Option Bool
truth_in xs = also (number 2 xs) nonzero

-- A primary number of four bytes, and four bytes that are ignored.
abbrev pub code_page_in : List ℕ → Option ℕ
code_page_in xs = also (exactly 8 xs) (λ ys. val (part ys 0 4))

-- A type of 1 or 2, a position, width and height, and flags of 0 or 1.
abbrev pub right_rendering : List ℕ → Bool
right_rendering xs = (val (part xs 0 2) == 1 || val (part xs 0 2) == 2) && nat_le (val (part xs 10 4)) 1

abbrev pub rendering_in : List ℕ → Contents
rendering_in xs = rendering (val (part xs 0 2)) (val (part xs 2 4)) (val (part xs 6 2)) (val (part xs 8 2)) (val (part xs 10 4))

abbrev pub checked_rendering : List ℕ → Option Contents
checked_rendering xs = where_true (right_rendering xs) (rendering_in xs)

abbrev pub is_rendering : List ℕ → Bool
is_rendering xs = is_some (then (exactly 14 xs) checked_rendering)

abbrev pub version_data : List ℕ
version_data = 0 ∷ (0 ∷ (1 ∷ (0 ∷ [])))

abbrev pub is_version : List ℕ → Bool
is_version xs = same_bytes xs version_data

-- What data mean under a rule; nothing where the rule does not admit them.
unfoldable pub means : Rule → List ℕ → Option Contents
means rule.Text xs = also (before_zero xs) text
means rule.Class xs = also (before_zero xs) class_of
means rule.Date xs = also (date_of xs) date
means rule.Digits xs = also (digit_pairs xs) digits
means rule.Status xs = also (status_in xs) status
means rule.Priority xs = also (importance_in xs) importance
means rule.YesNo xs = also (truth_in xs) truth
means rule.Raw xs = Some (raw xs)
means rule.Rendering xs = then (exactly 14 xs) checked_rendering
means rule.Version xs = where_true (is_version xs) version
means rule.CodePage xs = also (code_page_in xs) code_page
means rule.Recipients xs = None
means rule.Properties xs = None

-- The normal data of contents.
unfoldable pub normal : Contents → List ℕ
normal (text t) = t ++ 0 ∷ []
normal (class k) = class_text pairs k ++ 0 ∷ []
normal (date d) = le 2 d.year ++ le 2 d.month ++ le 2 d.day ++ le 2 d.hour ++ le 2 d.minute ++ le 2 d.second ++ le 2 (weekday d)
normal (digits ns) = map capital ns ++ 0 ∷ []
normal (status s) = le 4 (status_bits s)
normal (importance n) = le 2 (3 - n)
normal (truth b) = le 2 (flag b 1)
normal (raw xs) = xs
normal (rendering kind position width height flags) = le 2 kind ++ le 4 position ++ le 2 width ++ le 2 height ++ le 4 flags
normal version = version_data
normal (code_page n) = le 4 n ++ le 4 0

unfoldable pub admits : Rule → List ℕ → Bool
admits ρ xs = is_some (means ρ xs)

abbrev pub normal_of : Option Contents → List ℕ
normal_of (Some c) = normal c
normal_of None = []

-- The normal data of what data mean under a rule.
abbrev pub normal_data : Rule → List ℕ → List ℕ
normal_data ρ xs = normal_of (means ρ xs)

-- The primary number of a code page; 0 for other contents.
abbrev pub primary_number : Contents → ℕ
primary_number (code_page n) = n
primary_number (text t) = 0
primary_number (class k) = 0
primary_number (date d) = 0
primary_number (digits ns) = 0
primary_number (status s) = 0
primary_number (importance n) = 0
primary_number (truth b) = 0
primary_number (raw xs) = 0
primary_number (rendering kind position width height flags) = 0
primary_number version = 0
