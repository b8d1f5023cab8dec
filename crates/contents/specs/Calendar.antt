-- Dates of the Gregorian calendar, from 1601-01-01 on, a Monday.
use Rattle.std.specs.Prelude.{ℕ, zero, suc, ◌+◌, ◌-◌, ◌*◌, ◌/◌, ◌%◌, Bool, cond, not, ◌&&◌, ◌||◌, List, Option, ◌==◌, nat_le}
use Rattle.source.specs.Bytes.{part, val}
use Rattle.contents.specs.declared.dates.Date.{Date}
use Rattle.contents.specs.Options.{where_true, then, exactly}

abbrev pub leap : ℕ → Bool
leap year = year % 4 == 0 && (not (year % 100 == 0) || year % 400 == 0)

abbrev pub month_length : (year month : ℕ) → ℕ
month_length year month =
    cond (month == 2) (cond (leap year) 29 28)
    (cond (month == 4 || month == 6 || month == 9 || month == 11) 30 31)

abbrev pub is_date : Date → Bool
is_date d =
    nat_le 1601 d.year && nat_le d.year 9999 && nat_le 1 d.month && nat_le d.month 12
    && nat_le 1 d.day && nat_le d.day (month_length d.year d.month)
    && nat_le d.hour 23 && nat_le d.minute 59 && nat_le d.second 59

-- The days in the first n months of a year.
unfoldable pub days_before : (year n : ℕ) → ℕ
days_before year zero = 0
days_before year (suc n) = days_before year n + month_length year (n + 1)

-- How many days after 1601-01-01 a date is.
abbrev pub day_number : (year month day : ℕ) → ℕ
day_number year month day =
    let n : ℕ = year - 1601 in
    365 * n + n / 4 - n / 100 + n / 400 + days_before year (month - 1) + (day - 1)

-- 1 for Monday to 6, and 0 for Sunday.
unfoldable pub weekday : Date → ℕ
weekday d = (day_number d.year d.month d.day + 1) % 7

-- The k-th number of two bytes.
abbrev pub word : List ℕ → ℕ → ℕ
word xs k = val (part xs (2 * k) 2)

abbrev pub date_in : List ℕ → Date
date_in xs = record { year = word xs 0; month = word xs 1; day = word xs 2; hour = word xs 3; minute = word xs 4; second = word xs 5 }

abbrev pub checked : Date → Option Date
checked d = where_true (is_date d) d

-- Year, month, day, hour, minute, second and a weekday, which is ignored.
abbrev pub date_of : List ℕ → Option Date
date_of xs = then (exactly 14 xs) (λ ys. checked (date_in ys))
