-- The names that the proofs of this crate cite most, passed on from one place. Declares nothing.
pub use Rattle.dl_exact.proofs.BelowOne.{below_one, num_below}
pub use Rattle.dl_exact.proofs.Denominators.{over_one, over_plus, over_zero}
pub use Rattle.dl_exact.proofs.Laws.{le_of_eq, le_refl, le_trans, one_pos, one_times, over_times_whole, plus_le_both, plus_times, plus_zero, ring, times_assoc, times_comm, times_le_both, times_le_cancel, times_le_times, times_left_comm, times_one, times_plus, times_pos, whole_plus, whole_pos, whole_times, zero_times}
pub use Rattle.dl_exact.proofs.Orders.{times_inward, times_outward, times_right_comm, times_second}
pub use Rattle.dl_exact.proofs.Over.{le_over, over_add, over_div, over_le, over_lt, over_mul, over_same, over_self}
pub use Rattle.dl_exact.proofs.Parts.{over_den_le, over_num_le}
pub use Rattle.dl_exact.proofs.RoundingLaws.{whole_le}
pub use Rattle.dl_exact.proofs.Sums.{halving_bound, sum_pairs_le, sum_pairs_same, sum_pairs_times, sum_pairs_times_right}
pub use Rattle.dl_exact.proofs.SumsOver.{high_sum, low_sum}
unfoldable pub use Rattle.dl_exact.specs.Count.{count_below, count_pairs}
pub use Rattle.dl_exact.specs.Fraction.{Fraction, whole}
unfoldable pub use Rattle.dl_exact.specs.Fraction.{◌*ℚ◌, ◌+ℚ◌, ◌/ℚ◌, ◌<ℚ◌, ◌over◌, ◌≤ℚ◌}
unfoldable pub use Rattle.dl_exact.specs.Sum.{sum_pairs, sum_to}
pub use Rattle.dl_limits.specs.Limits.{most_cells, most_shape}
pub use Rattle.dl_model.proofs.Alike.{least_from, most_from}
pub use Rattle.dl_model.proofs.AnyShape.{gamma_none}
pub use Rattle.dl_model.proofs.Cauchy.{cauchy_high, cauchy_low}
pub use Rattle.dl_model.proofs.Declared.{at_least_times, at_least_wider, at_most_times, at_most_wider}
pub use Rattle.dl_model.proofs.FamilyLaws.{sum_rises_to}
pub use Rattle.dl_model.proofs.FiniteCounts.{power_one}
pub use Rattle.dl_model.proofs.Gamma.{gamma_plus, gamma_power, geometric_least, geometric_low}
pub use Rattle.dl_model.proofs.PoissonTimes.{poisson_power}
pub use Rattle.dl_model.proofs.PoissonWeights.{poisson_next, poisson_zero}
pub use Rattle.dl_model.proofs.Powers.{power_plus}
pub use Rattle.dl_model.proofs.Roots.{none_above, none_below, none_least, none_most, root_least, root_most}
pub use Rattle.dl_model.specs.Compound.{cell, convolve}
unfoldable pub use Rattle.dl_model.specs.Compound.{at_zero, power}
pub use Rattle.dl_model.specs.Counts.{IsPanjer}
unfoldable pub use Rattle.dl_model.specs.Counts.{gamma, poisson}
pub use Rattle.dl_model.specs.Series.{AtLeast, AtMost, Holds, IsBound, Series, times}
pub use Rattle.dl_start.specs.Start.{HoldsNoClaim, IsExact, IsRootRatio, IsWithin}
pub use Rattle.dl_start.specs.declared.scaled.Scaled.{Scaled}
pub use Rattle.std.proofs.Common.{List, [], add-one, add-suc, add-zero, ap, append-nil, ap₂, arith, cond, div-le_self, div-mul-le_self, get_or, inl, inr, le_of_mul-le-mul_right, length, length-append, lt_of_mul-lt-mul_right, max, mul-le-mul, mul-le-mul_left, mul-le-mul_right, mul-pos, pow-add, pow-suc, refl, subst, suc, suc-add, sym, take, zero, zero-mul, ℕ, ◌%◌, ◌*◌, ◌++◌, ◌+◌, ◌-◌, ◌/◌, ◌<◌, ◌^◌, ◌∙◌, ◌∷◌, ◌≡◌, ◌≢◌, ◌≤◌, ◌⊎◌}
pub use Rattle.std.proofs.Math.Nat.{div-add-mod, div-le_of_le-mul, div-lt_iff_lt-mul, dvd-mul_right, eq-zero-or-pos, eq_of_mul-eq-mul_left, eq_of_mul-eq-mul_right, le-max_left, le-max_right, lt-div-mul-add, lt_of_le_of_lt, mod-lt, mul-add, one-le-pow, pos_of_dvd_of_pos, pow-le-pow_right, zero-lt-suc}
pub use Rattle.std.proofs.lemmas.Bool.{cases_eq, cases_lt, eq-eqb, ne_eqb}
pub use Rattle.std.proofs.lemmas.Bool.Decides.{eqb_tells, leb_tells}
pub use Rattle.std.proofs.lemmas.Grind.{div_ceil_times}
pub use Rattle.std.proofs.lemmas.Nat.{le-div}
pub use Rattle.std.specs.Int.{div_ceil}
pub use Rattle.std.specs.Prelude.{if◌then◌else◌, min, nat_eq, ◌==◌}
