-- The names that the proofs of this crate cite most, passed on from one place. Declares nothing.
pub use Rattle.dl_claims.specs.Powers.{AreBetween, ArePairable, AreParts, ArePowers, Between, IsStep, LieBetween, mixture_end}
pub use Rattle.dl_convolution.proofs.Ends.{sum_total}
pub use Rattle.dl_exact.proofs.Counts.{below_first, below_le, below_more, below_none, below_nothing, below_pairs, below_same, below_times, nothing_times, pairs_same, times_nothing}
pub use Rattle.dl_exact.proofs.Denominators.{over_plus, over_split, over_zero}
pub use Rattle.dl_exact.proofs.Laws.{le_of_eq, le_plus, le_refl, le_trans, one_pos, plus_assoc, plus_comm, plus_le_both, times_le_both, times_left_comm, times_one, times_zero, zero_le}
pub use Rattle.dl_exact.proofs.Over.{le_over, over_le, over_mul, over_same}
pub use Rattle.dl_exact.proofs.Results.{if_ok_three, if_ok_two}
pub use Rattle.dl_exact.proofs.RoundingLaws.{div_ceil_least}
pub use Rattle.dl_exact.proofs.Sums.{item_le_sum, sum_pairs_le, sum_pairs_same, sum_pairs_sum_to, sum_pairs_times, sum_to_le, sum_to_same, sum_to_times}
pub use Rattle.dl_exact.proofs.SumsOver.{pairs_in_units, to_over}
unfoldable pub use Rattle.dl_exact.specs.Count.{count_below, count_pairs}
pub use Rattle.dl_exact.specs.Fraction.{Fraction, whole}
unfoldable pub use Rattle.dl_exact.specs.Fraction.{◌*ℚ◌, ◌+ℚ◌, ◌over◌, ◌≤ℚ◌}
unfoldable pub use Rattle.dl_exact.specs.Power.{◌^ℚ◌}
unfoldable pub use Rattle.dl_exact.specs.Sum.{sum_pairs, sum_to}
pub use Rattle.dl_grid.proofs.CellLaws.{high_le, scale_of, size_of}
pub use Rattle.dl_grid.proofs.CellSets.{at_zero_small, high_emptied, high_joined, high_take, low_emptied, low_take, mass_none, spread_none}
pub use Rattle.dl_grid.proofs.EndLists.{high_at_ends, low_at_ends, low_ends_long, low_le_high}
pub use Rattle.dl_grid.proofs.PlaceSums.{low_within, whole_mass}
pub use Rattle.dl_grid.proofs.Products.{floors_within}
pub use Rattle.dl_grid.proofs.Room.{size_few, size_within}
pub use Rattle.dl_grid.proofs.WidthLaws.{cv_rises, mixed_next, mixed_none, pw_even, pw_odd, pw_one}
pub use Rattle.dl_grid.specs.Cells.{AreEnds, IsGrid, high_ends, low_ends, mass_low, spread}
unfoldable pub use Rattle.dl_grid.specs.Cells.{all_at_zero, high_at, low_at}
pub use Rattle.dl_grid.specs.Convolution.{IsConvolution}
pub use Rattle.dl_grid.specs.Room.{IsGridSize}
unfoldable pub use Rattle.dl_grid.specs.Width.{mixed_spread}
pub use Rattle.dl_grid.specs.Width.{convolution_spread, power_spread}
pub use Rattle.dl_iv.proofs.Operations.{enclose_high, enclose_low}
pub use Rattle.dl_iv.specs.declared.interval.Iv.{Iv}
pub use Rattle.dl_limits.specs.Limits.{most_weights}
pub use Rattle.dl_model.proofs.Alike.{same_cells_enclosed}
pub use Rattle.dl_model.proofs.Beginnings.{fixed_claims}
pub use Rattle.dl_model.proofs.CompoundLaws.{power_within_one}
pub use Rattle.dl_model.proofs.FamilyLaws.{compound_proper, convolution_encloses, encloses_power, encloses_same, itself_none, itself_one, itself_proper}
pub use Rattle.dl_model.proofs.FiniteCounts.{all_at_zero_encloses, finite_encloses, fixed_cell, fixed_sum, power_one, severity_between}
pub use Rattle.dl_model.proofs.Horner.{horner_end, horner_next, horner_start}
pub use Rattle.dl_model.proofs.ItemWeights.{probability_is}
pub use Rattle.dl_model.proofs.Powers.{power_plus}
pub use Rattle.dl_model.proofs.WeightLaws.{part_of, probabilities_all, probabilities_le, probability-past, weight_within, weights_le}
pub use Rattle.dl_model.specs.Compound.{cell, cell_from, convolve}
unfoldable pub use Rattle.dl_model.specs.Compound.{at_zero, power}
pub use Rattle.dl_model.specs.Counts.{fixed}
pub use Rattle.dl_model.specs.Family.{Encloses, Family, GridEncloses, IsProper, compound, nothing, product, times_itself}
pub use Rattle.dl_model.specs.Listed.{probability_at}
pub use Rattle.dl_model.specs.Program.{where_true}
pub use Rattle.dl_model.specs.Severity.{IsWithinOne}
pub use Rattle.dl_plan.specs.Weighted.{amounts_of, greatest, weight_at, weight_sum}
pub use Rattle.dl_plan.specs.declared.item.Item.{Item}
pub use Rattle.std.proofs.Common.{List, [], add-one, add-suc, add-zero, ap, ap₂, arith, get_or, inl, inr, length, mul-pos, refl, rules, subst, suc, sym, take, zero, ℕ, ◌%◌, ◌*◌, ◌++◌, ◌+◌, ◌-◌, ◌/◌, ◌<◌, ◌^◌, ◌∙◌, ◌∷◌, ◌≡◌, ◌≢◌, ◌≤◌}
pub use Rattle.std.proofs.Math.ListN.{get_or-eq_default}
pub use Rattle.std.proofs.Math.Nat.{div-add-mod, div-mul-le_self, le_of_mul-le-mul_right, mod-eq_of_lt, mod-lt, mul-le-mul, mul-le-mul_left, mul-le-mul_right, pow-le-pow_right, pow-suc, sub-zero, zero-div, zero-mul}
pub use Rattle.std.proofs.Math.Seq.{get_or-append_seam}
pub use Rattle.std.proofs.lemmas.Bool.{cases_lt, leb-true, ltb-true, ne_eqb}
pub use Rattle.std.proofs.lemmas.Bool.Decides.{eqb_tells}
pub use Rattle.std.proofs.lemmas.Grind.{div_ceil_times, get_or_default_zero}
pub use Rattle.std.proofs.lemmas.List.{get_or-take, get_or_append_left, get_or_default, get_or_past, length-append, length-take, length-take-le, take_all}
pub use Rattle.std.proofs.lemmas.List.Elements.{All-push}
pub use Rattle.std.proofs.lemmas.List.Kept.{AllPairs-from_increasing}
pub use Rattle.std.proofs.lemmas.List.Sums.{sum_by-cons, sum_by-take-le, sum_by_more, sum_by_more_le, sum_by_more_le_part}
pub use Rattle.std.proofs.lemmas.Nat.{pow_pos}
pub use Rattle.std.proofs.lemmas.Result.{IfOk-weaker}
pub use Rattle.std.specs.Int.{div_ceil, sum_through}
pub use Rattle.std.specs.List.Sorted.{IsStrictlyIncreasing}
pub use Rattle.std.specs.Prelude.{All, IfOk, Result, false, if◌then◌else◌, max, min, sum, true, zip, ◌==◌}
