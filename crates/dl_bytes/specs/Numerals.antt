-- How a numeral is spelled: a decimal, a percent or a fraction. 37 is `%`, 46 is `.` and 47 is `/`.
use Rattle.std.specs.Prelude.{ℕ, ◌≡◌, ◌==◌, ◌&&◌, Bool, List, [], ◌∷◌, ◌++◌, length, nat_lt, if◌then◌else◌}
use Rattle.std.specs.Char.{is_ascii_digit}
use Rattle.std.specs.List.{list_all, list_any, before_first, after_first}
use Rattle.dl_bytes.specs.Digits.{AreDigits, IsDigits, is_number}

-- `12`, `1.5` and `5.`, or `.5`
pub data IsDecimal (bytes : List ℕ) : Type 0 where
  digits : IsDigits bytes → IsDecimal bytes
  digits_point : (whole part : List ℕ) → bytes ≡ whole ++ 46 ∷ part → IsDigits whole
      → AreDigits part → IsDecimal bytes
  point_digits : (part : List ℕ) → bytes ≡ 46 ∷ part → IsDigits part → IsDecimal bytes

-- `12%`: a decimal, and a percent sign right behind it
pub data IsPercent (bytes : List ℕ) : Type 0 where
  percent : (decimal : List ℕ) → bytes ≡ decimal ++ 37 ∷ [] → IsDecimal decimal → IsPercent bytes

-- `1/2`: digits, a slash, digits
pub data IsFraction (bytes : List ℕ) : Type 0 where
  fraction : (above below : List ℕ) → bytes ≡ above ++ 47 ∷ below → IsDigits above → IsDigits below
      → IsFraction bytes

-- a decimal, a percent or a fraction
pub data IsNumeral (bytes : List ℕ) : Type 0 where
  a_decimal : IsDecimal bytes → IsNumeral bytes
  a_percent : IsPercent bytes → IsNumeral bytes
  a_fraction : IsFraction bytes → IsNumeral bytes

-- the byte `%`
abbrev pub is_percent : ℕ → Bool
is_percent byte = byte == 37

-- the byte `.`
abbrev pub is_point : ℕ → Bool
is_point byte = byte == 46

-- the byte `/`
abbrev pub is_slash : ℕ → Bool
is_slash byte = byte == 47

-- a decimal as a test: digits; or digits and a point before, among or behind them
abbrev pub is_decimal : List ℕ → Bool
is_decimal text =
    if list_any is_point text
    then nat_lt 1 (length text) && list_all is_ascii_digit (before_first is_point text)
    && list_all is_ascii_digit (after_first is_point text)
    else is_number text

-- a numeral as a test: a fraction, a percent or a decimal
abbrev pub is_numeral : List ℕ → Bool
is_numeral text =
    if list_any is_slash text then is_number (before_first is_slash text)
    && is_number (after_first is_slash text)
    else if list_any is_percent text then is_decimal (before_first is_percent text)
    && length (after_first is_percent text) == 0
    else is_decimal text
