-- Digits and the numbers that they write.
use Rattle.std.specs.Prelude.{ℕ, ◌<◌, ◌&&◌, Bool, IsTrue, List, length, nat_le, nat_lt}
use Rattle.std.specs.Char.{is_ascii_digit}
use Rattle.std.specs.List.{list_all}
use Rattle.std.specs.Str.Parse.{digits_value}

-- any number of digits
abbrev pub AreDigits : List ℕ → Type 0
AreDigits bytes = IsTrue (list_all is_ascii_digit bytes)

-- at least one digit
abbrev pub IsDigits : List ℕ → Type 0
IsDigits bytes = (0 < length bytes) × AreDigits bytes

-- the same, as a test
abbrev pub is_number : List ℕ → Bool
is_number text = nat_lt 0 (length text) && list_all is_ascii_digit text

-- one digit or more, and at most so many
abbrev pub is_number_of : ℕ → List ℕ → Bool
is_number_of most text = is_number text && nat_le (length text) most

-- the number that digits write
abbrev pub number : List ℕ → ℕ
number text = digits_value 10 text
