-- The names that the proofs of this crate cite most, passed on from one place. Declares nothing.
pub use Rattle.std.proofs.Common.{Bool, List, Some, None, [], ap, arith, cond, drop, false, get_or, inl, inr, length, refl, rules, subst, suc, sym, take, true, ℕ, ◌*◌, ◌++◌, ◌+◌, ◌-◌, ◌<◌, ◌^◌, ◌||◌, ◌∙◌, ◌∷◌, ◌≡◌, ◌≤◌}
pub use Rattle.std.proofs.lemmas.Bool.{and_from, and_parts, cases_Bool, eqb-true, false_from_ne_true, lt-ltb, ltb-true, or_parts}
pub use Rattle.std.proofs.lemmas.Bool.Decides.{nat_tests}
pub use Rattle.std.proofs.lemmas.List.{append-nil, length-append}
pub use Rattle.std.specs.Char.{digit_value, is_ascii_digit}
pub use Rattle.std.specs.List.{after_first, before_first, list_all, list_any, position_or_len}
pub use Rattle.std.specs.Prelude.{IsTrue, nat_lt, ◌==◌, ◌&&◌, ◌↔◌}
pub use Rattle.std.specs.Str.Parse.{digits_value}
pub use Rattle.dl_bytes.specs.Digits.{AreDigits, IsDigits, is_number}
pub use Rattle.dl_bytes.specs.Numerals.{IsDecimal, IsNumeral, a_decimal, a_fraction, a_percent, digits, digits_point, fraction, is_decimal, is_numeral, is_percent, is_point, is_slash, percent, point_digits}
