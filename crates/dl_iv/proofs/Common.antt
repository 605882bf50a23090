-- The names that the proofs of this crate cite most, passed on from one place. Declares nothing.
pub use Rattle.dl_exact.proofs.Denominators.{over_le_over, over_minus, over_one, over_pos, over_split, over_zero}
pub use Rattle.dl_exact.proofs.Laws.{div_le_both, le_of_eq, le_refl, lt_of_lt_of_le, plus_le_both, sub_le_both, times_le_both}
pub use Rattle.dl_exact.proofs.Lesser.{clamp_high, clamp_low, le_lesser, lesser_first, lesser_second}
pub use Rattle.dl_exact.proofs.Over.{over_div, over_le, over_mul, over_same}
pub use Rattle.dl_exact.proofs.RoundingLaws.{div_ceil_least}
pub use Rattle.dl_exact.specs.Fraction.{Fraction, whole, ◌*ℚ◌, ◌-ℚ◌, ◌/ℚ◌, ◌<ℚ◌}
unfoldable pub use Rattle.dl_exact.specs.Fraction.{◌+ℚ◌, ◌over◌, ◌≤ℚ◌}
unfoldable pub use Rattle.dl_exact.specs.Sum.{sum_over}
pub use Rattle.dl_iv.specs.Enclosure.{EachLiesIn, LiesIn, nothing, then}
pub use Rattle.dl_iv.specs.declared.interval.Iv.{Iv}
pub use Rattle.std.proofs.Common.{List, ap, arith, length, min, mul-pos, mul_comm, refl, subst, sum_by, sym, take, ℕ, ◌%◌, ◌*◌, ◌+◌, ◌-◌, ◌/◌, ◌<◌, ◌^◌, ◌∙◌, ◌≡◌, ◌≤◌}
pub use Rattle.std.proofs.Math.Nat.{div-add-mod, div-le_of_le-mul, div-mul-le_self, le-mul_of_pos_right, le_trans, mul-add-div, mul-add-mod_self_left, mul-le-mul_right, one-le-pow, pow-le-pow_right}
pub use Rattle.std.proofs.lemmas.Grind.{div_ceil_times}
pub use Rattle.std.proofs.lemmas.List.{take_all}
pub use Rattle.std.proofs.lemmas.List.Sums.{sum_by-cons}
pub use Rattle.std.proofs.lemmas.Nat.{mul-le, pow-add, pow_pos}
pub use Rattle.std.specs.Int.{div_ceil}
