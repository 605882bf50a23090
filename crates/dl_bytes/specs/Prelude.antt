-- The definitions that other crates cite, passed on from one place. Declares nothing.
pub use Rattle.dl_bytes.specs.Digits.{AreDigits, IsDigits, is_number, is_number_of, number}
pub use Rattle.dl_bytes.specs.Numerals.{IsDecimal, IsFraction, IsNumeral, IsPercent, a_decimal, a_fraction, a_percent, digits, digits_point, fraction, is_decimal, is_numeral, is_percent, is_point, is_slash, percent, point_digits}
