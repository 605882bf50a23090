-- What the files on totals, plans and common factors cite most of the laws before them, passed on from one place.
-- Declares nothing.
pub use Rattle.dl_model.proofs.Declared.{at_least_plus, at_least_times, at_least_wider, at_most_plus, at_most_times, at_most_wider, holds_plus, holds_times, holds_wider, least_with_factor, most_with_factor, none_holds, rises_to, scaled, scaled_least, scaled_most, scaled_rises, self_holds, times_self, where_rises}
pub use Rattle.dl_model.proofs.Minus.{at_least_minus, at_least_rest, at_most_minus, at_most_rest, holds_minus, minus_least, minus_most}
pub use Rattle.dl_model.proofs.Picks.{off, on, passed, pick, times_where, where_factor}
pub use Rattle.dl_model.proofs.Powers.{at_zero_convolve, convolve_assoc, convolve_comm, convolve_first, convolve_scaled, convolve_times, power_plus, power_tilt, tilt_at_zero}
pub use Rattle.dl_model.proofs.Cauchy.{by_total, cauchy_low, sum_convolve}
pub use Rattle.dl_model.proofs.Divided.{convolve_pairs, divided_none, divided_plus, divided_tilt, divided_whole, undivided}
pub use Rattle.dl_model.proofs.CompoundLaws.{cell_past, cell_stays, cells_all, convolve_past, no_power, power_past, power_severity, power_within_one, severity_within_one, sum_at_zero}
pub use Rattle.dl_model.proofs.WeightLaws.{part_of, probabilities_all, probability-past, weight_at-cons, weight_sum-cons, weight_within, weights_times}
pub use Rattle.dl_model.proofs.FiniteCounts.{bounded_by_all, finite_holds, fixed_cell, fixed_sum, holds_reached, power_one}
pub use Rattle.dl_model.proofs.FamilyLaws.{cell_at_most_one, encloses_same, rises_times, sum_holds, sum_rises_to}
pub use Rattle.dl_model.proofs.Alike.{AreLevel, IsUnder, cancel_value, cauchy_level, ends_in_order, level_same, same_value, value_sym, value_trans}
pub use Rattle.dl_model.proofs.Least.{least_scaled, over_factor}
pub use Rattle.dl_model.proofs.Itself.{count_power, sum_to_at_zero}
pub use Rattle.dl_model.proofs.PoissonWeights.{next_of, poisson_bound, poisson_next, poisson_plus, poisson_zero}
pub use Rattle.dl_model.proofs.Gamma.{gamma_next, gamma_one_more, gamma_shift, gamma_zero, geometric_identity, geometric_low, geometric_next, over_next}
pub use Rattle.dl_model.proofs.GammaThin.{div_plus, gamma_shares, mean_pos, one_least, pos_plus, shape_times, share_of, thin_gamma}
pub use Rattle.dl_model.proofs.AddedCounts.{binomial_power, fixed_past, fixed_power, one_trial_none, one_trial_one, trial}
pub use Rattle.dl_model.proofs.Outcomes.{first_unit, loss_proper, mean_alone, mean_more, outcomes_below, outcomes_le, outcomes_none, outcomes_plus, outcomes_rise, outcomes_same, outcomes_sum, outcomes_times, sum-cons, total_alone, total_alone_all, total_more, total_more_all}
pub use Rattle.dl_model.proofs.UnitLaws.{unit_loss, unit_plain, unit_proper, unit_within}
pub use Rattle.dl_model.proofs.Scores.{above_cdf, cdf_rest, layer_survivals, points_to, survival_rest}
pub use Rattle.dl_model.proofs.Ends.{below_first, below_least, below_most, part_most_one, to_holds, to_rises}
pub use Rattle.dl_model.proofs.Bracket.{cdf_grows, one_quantile, quantile_inside}
pub use Rattle.dl_model.proofs.TailScores.{div_is_times, rest_pos, tail_excess}
pub use Rattle.dl_model.proofs.ChangedZero.{changed_holds, changed_lows, changed_zero_holds, clause_with_none, sub_zero, weights_apart, with_none_all, with_none_mean, with_none_rises}
