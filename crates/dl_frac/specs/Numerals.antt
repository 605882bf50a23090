-- What numerals are worth, and when they are bad.
use Rattle.std.specs.Prelude.{ℕ, ◌-◌, ◌^◌, Bool, ◌==◌, ◌||◌, nat_lt, if◌then◌else◌, List, length}
use Rattle.std.specs.List.{filter, list_any, before_first, after_first}
use Rattle.std.specs.Char.{is_ascii_digit}
use Rattle.std.specs.Str.Parse.{digits_value}
use Rattle.dl_bytes.specs.Numerals.{is_percent, is_point, is_slash}
use Rattle.dl_exact.specs.Fraction.{Fraction, whole, ◌over◌, ◌/ℚ◌}

-- the digits of a text, how many they are, and the number that they write
abbrev pub digits_in : List ℕ → List ℕ
digits_in text = filter is_ascii_digit text

abbrev pub digit_count : List ℕ → ℕ
digit_count text = length (digits_in text)

abbrev pub number_in : List ℕ → ℕ
number_in text = digits_value 10 (digits_in text)

-- how many digits follow the point
abbrev pub decimals_in : List ℕ → ℕ
decimals_in text = digit_count (after_first is_point text)

-- the number of the digits without the point, divided by 10 for each digit after the point
abbrev pub decimal_value : List ℕ → Fraction
decimal_value text = number_in text over 10 ^ decimals_in text

-- a fraction is its first number over its second, and a percent is its decimal divided by 100
unfoldable pub numeral_value : List ℕ → Fraction
numeral_value text =
    if list_any is_slash text then number_in (before_first is_slash text) over number_in
    (after_first is_slash text)
    else if list_any is_percent text then decimal_value text /ℚ whole 100
    else decimal_value text

-- too many digits for a limit of d, which is 2 lower for a percent; or a fraction over 0
unfoldable pub is_bad : ℕ → List ℕ → Bool
is_bad d text =
    if list_any is_slash text then
    nat_lt d (digit_count (before_first is_slash text)) || nat_lt d
    (digit_count (after_first is_slash text)) || number_in (after_first is_slash text) == 0
    else if list_any is_percent text then nat_lt (d - 2) (digit_count text)
    else nat_lt d (digit_count text)
