-- The names that the proofs of this crate cite most, passed on from one place. Declares nothing.
pub use Rattle.dl_budget.proofs.Bases.{budget_below, budget_both, budget_whole, whole_few, whole_some}
pub use Rattle.dl_budget.proofs.Counts.{gamma_value, poisson_value, where_none}
pub use Rattle.dl_budget.proofs.NoneSizes.{none_beta}
unfoldable pub use Rattle.dl_budget.specs.Claims.{count_budget, gamma_budget, poisson_budget}
pub use Rattle.dl_budget.specs.Claims.{claims_budget, count_budget, none_budget, rest_part, whole_part}
unfoldable pub use Rattle.dl_budget.specs.Halvings.{halvings}
pub use Rattle.dl_exact.proofs.BelowOne.{below_one}
pub use Rattle.dl_exact.proofs.Counts.{below_constant, below_first, below_le, below_more, below_nothing, below_plus, below_same, below_times}
pub use Rattle.dl_exact.proofs.Denominators.{over_one, over_pos, over_zero}
pub use Rattle.dl_exact.proofs.Laws.{div_le_both, div_times, le_of_eq, le_trans, lt_of_lt_of_le, one_pos, plus_comm, plus_zero, times_comm, times_one, times_zero, whole_pos, zero_le, zero_plus}
pub use Rattle.dl_exact.proofs.Over.{over_div, over_le, over_lt, over_self}
pub use Rattle.dl_exact.proofs.Parts.{num_pos, over_den_le, over_num_le}
pub use Rattle.dl_exact.proofs.Results.{if_ok_three, if_ok_two}
pub use Rattle.dl_exact.proofs.RoundingLaws.{div_ceil_least, part_within, whole_le}
pub use Rattle.dl_exact.proofs.Sums.{item_le_sum}
unfoldable pub use Rattle.dl_exact.specs.Count.{count_below}
pub use Rattle.dl_exact.specs.Fraction.{Fraction, whole, ◌-ℚ◌, ◌<ℚ◌, ◌≤ℚ◌}
unfoldable pub use Rattle.dl_exact.specs.Fraction.{◌*ℚ◌, ◌+ℚ◌, ◌/ℚ◌, ◌over◌}
unfoldable pub use Rattle.dl_exact.specs.Sum.{sum_over, sum_to}
pub use Rattle.dl_grid.proofs.CellLaws.{high_at_get, high_at_read, low_at_read, one_fits, scale_of, size_of}
pub use Rattle.dl_grid.proofs.CellSets.{high_added, high_joined, high_kept, low_added, spread_none}
pub use Rattle.dl_grid.proofs.EndLists.{low_le_high}
pub use Rattle.dl_grid.proofs.PlaceSums.{high_at_front, high_at_pushed, low_at_front, low_at_pushed, low_within, whole_mass, whole_spread, width_at, width_within}
pub use Rattle.dl_grid.proofs.Room.{size_few}
pub use Rattle.dl_grid.proofs.WidthLaws.{cv_rises, mixed_rises, pw_rises}
pub use Rattle.dl_grid.specs.Cells.{IsGrid, spread}
unfoldable pub use Rattle.dl_grid.specs.Cells.{all_at_zero, high_at, low_at}
pub use Rattle.dl_grid.specs.Convolution.{IsConvolution}
pub use Rattle.dl_grid.specs.Room.{IsGridSize}
pub use Rattle.dl_grid.specs.Width.{convolution_spread, power_spread}
pub use Rattle.dl_iv.proofs.Operations.{add_high, add_low, enclose_high, enclose_low, scale_high, scale_low}
pub use Rattle.dl_iv.specs.declared.interval.Iv.{Iv}
pub use Rattle.dl_limits.specs.Limits.{IsPlanScale, long_bits, most_cells}
unfoldable pub use Rattle.dl_limits.specs.Limits.{most_amount_at, most_cells_at}
pub use Rattle.dl_model.proofs.AddedCounts.{binomial_power, trial}
pub use Rattle.dl_model.proofs.AddedShapes.{ones_added, shapes_added}
pub use Rattle.dl_model.proofs.Alike.{same_cells_enclosed, value_sym}
pub use Rattle.dl_model.proofs.Beginnings.{fixed_claims, one_trial_cell, trials}
pub use Rattle.dl_model.proofs.ChangedZero.{sub_zero}
pub use Rattle.dl_model.proofs.CompoundLaws.{cell_stays, power_severity}
pub use Rattle.dl_model.proofs.FamilyLaws.{compound_proper, convolution_encloses}
pub use Rattle.dl_model.proofs.FiniteCounts.{all_at_zero_encloses, finite_encloses, severity_between}
pub use Rattle.dl_model.proofs.ItemWeights.{probability_is}
pub use Rattle.dl_model.proofs.PlanThin.{gamma_thinned, no_amount_thinned, none_thinned, part_of_means, poisson_thinned, positive}
pub use Rattle.dl_model.proofs.PoissonThin.{thin_poisson}
pub use Rattle.dl_model.proofs.WithinOne.{within_one}
pub use Rattle.dl_model.specs.Compound.{cell}
unfoldable pub use Rattle.dl_model.specs.Compound.{at_zero, power}
pub use Rattle.dl_model.specs.Counts.{binomial, fixed, gamma_of}
unfoldable pub use Rattle.dl_model.specs.Counts.{poisson}
pub use Rattle.dl_model.specs.Family.{Encloses, Family, GridEncloses, SameCells, compound, nothing, times_itself}
pub use Rattle.dl_model.specs.Listed.{probability_at}
pub use Rattle.dl_model.specs.Plans.{compound_of, count_weights}
pub use Rattle.dl_model.specs.Series.{Holds, Series}
pub use Rattle.dl_model.specs.Severity.{IsSeverity, IsWithinOne}
pub use Rattle.dl_plan.proofs.Clauses.{num_le_den}
pub use Rattle.dl_plan.proofs.Fits.{given_ok, given_value, over_fits}
pub use Rattle.dl_plan.proofs.Means.{severity_total, total_pos}
pub use Rattle.dl_plan.specs.Count.{IsClaimCount, IsShape, IsThinnedGamma, IsThinnedTo, IsUnbounded, expected_count}
pub use Rattle.dl_plan.specs.Fine.{HasPartsOf48Bits}
pub use Rattle.dl_plan.specs.Means.{thinned_mean}
pub use Rattle.dl_plan.specs.Severity.{HasDistribution, Pairs, conditioned, pairs_of, probability, probability_of}
pub use Rattle.dl_plan.specs.Valid.{IsNewZero, IsValidUnit, claims_alone}
pub use Rattle.dl_plan.specs.Weighted.{greatest, weight_at}
pub use Rattle.dl_plan.specs.declared.item.Item.{Item}
pub use Rattle.dl_plan.specs.declared.plan.Freq.{Freq}
pub use Rattle.dl_plan.specs.declared.plan.Freq.TheVariants.{Bernoulli, Binomial, Fixed, Gamma, Poisson, Table}
pub use Rattle.dl_plan.specs.declared.severity.Sev.{Sev}
pub use Rattle.dl_start.proofs.Shares.{shape_parts}
pub use Rattle.dl_unit.specs.Narrow.{IsNarrow}
pub use Rattle.dl_unit.specs.Trials.{high_trial, low_trial}
pub use Rattle.std.proofs.Common.{List, Option, Some, [], ap, ap₂, arith, get_or, inl, inr, length, mul-le-mul, mul-le-mul_left, mul-le-mul_right, nat_lt, refl, rules, set, subst, suc, sym, zero, ℕ, ◌%◌, ◌*◌, ◌++◌, ◌+◌, ◌-◌, ◌/◌, ◌<◌, ◌^◌, ◌∙◌, ◌∷◌, ◌≡◌, ◌≢◌, ◌≤◌}
pub use Rattle.std.proofs.Math.Nat.{add-sub_of_le, div-mul-le_self, eq-zero-or-pos, le_of_mul-le-mul_right, mod-eq_of_lt, mod-lt, pow-le-pow_right, zero-lt-suc}
pub use Rattle.std.proofs.lemmas.Bool.{cases_lt, lt-ltb, ne_eqb}
pub use Rattle.std.proofs.lemmas.Bool.Decides.{leb_tells}
pub use Rattle.std.proofs.lemmas.List.{length-set}
pub use Rattle.std.proofs.lemmas.List.Elements.{All-cons, All-nil}
pub use Rattle.std.proofs.lemmas.List.Sums.{sum_by-cons}
pub use Rattle.std.proofs.lemmas.Nat.{one_shl, pow_pos}
pub use Rattle.std.proofs.lemmas.Result.{IfOk-weaker}
pub use Rattle.std.specs.Int.{div_ceil}
pub use Rattle.std.specs.Prelude.{IfOk, IfSome, Result, filter, if◌then◌else◌, map, min, ⊤, ◌==◌}
pub use mathlib.Core.Path.{fun_ext}
