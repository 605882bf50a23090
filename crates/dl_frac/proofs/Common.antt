-- The names that the proofs of this crate cite most, passed on from one place. Declares nothing.
pub use Rattle.std.proofs.Common.{Bool, List, [], ap, ap₂, arith, cond, drop, false, get_or, inl, inr, length, refl, subst, suc, sym, take, true, ℕ, ◌*◌, ◌++◌, ◌+◌, ◌-◌, ◌<◌, ◌^◌, ◌||◌, ◌∙◌, ◌∷◌, ◌≡◌, ◌≤◌}
pub use Rattle.std.proofs.Math.Nat.{pow-le-pow_right}
pub use Rattle.std.proofs.lemmas.Bool.Decides.{nat_tests}
pub use Rattle.std.proofs.lemmas.List.{append-nil, length-append, take-append-drop, take_more}
pub use Rattle.std.specs.Char.{digit_value, is_ascii_digit}
pub use Rattle.std.specs.List.{after_first, before_first, list_all, list_any, position_or_len}
pub use Rattle.std.specs.Prelude.{IsTrue, nat_lt, ◌==◌, ◌↔◌}
pub use Rattle.std.specs.Str.Parse.{AllDigits}
pub use Rattle.dl_exact.proofs.GcdLaws.{cut_lowest, cut_pos, gcd_is, gcd_pos}
pub use Rattle.dl_exact.proofs.Lists.{rest_whole}
pub use Rattle.dl_exact.proofs.Multiples.{gcd-mod, gcd-zero, lowest_swap}
pub use Rattle.dl_exact.proofs.Parts.{cut_same, lowest_self, num_pos}
pub use Rattle.dl_exact.specs.Fraction.{Fraction, whole}
unfoldable pub use Rattle.dl_exact.specs.Fraction.{◌/ℚ◌, ◌over◌}
unfoldable pub use Rattle.dl_exact.specs.Gcd.{gcd}
pub use Rattle.dl_bytes.specs.Numerals.{IsDecimal, digits, is_percent, is_point, is_slash}
pub use Rattle.dl_frac.specs.Numerals.{digit_count, digits_in, number_in, decimals_in}
unfoldable pub use Rattle.dl_frac.specs.Numerals.{is_bad, numeral_value}
pub use Rattle.dl_frac.specs.Reads.{IsReadingOf}
