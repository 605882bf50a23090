-- What the later files cite most of the laws of declared values, of powers and of families, passed on from one place.
-- Declares nothing.
pub use Rattle.dl_model.proofs.Declared.{at_least_plus, at_least_wider, at_most_plus, at_most_wider, holds_plus, holds_times, holds_wider, least_with_factor, most_with_factor, none_holds, quotient, rises_to, scaled, scaled_least, scaled_most, scaled_rises, self_holds, times_self, where_holds, where_rises}
pub use Rattle.dl_model.proofs.Minus.{at_least_rest, at_least_minus, at_most_minus, at_most_rest, holds_minus, minus_least, minus_most}
pub use Rattle.dl_model.proofs.Picks.{off, on, passed, pick, pick_none, times_where, where_factor, where_plus, where_swap, where_turned}
pub use Rattle.dl_model.proofs.Powers.{at_zero_convolve, convolve_assoc, convolve_comm, convolve_first, convolve_next, convolve_scaled, convolve_times, power_plus, power_tilt, tilt_at_zero}
pub use Rattle.dl_model.proofs.Cauchy.{cauchy_low, square_le_triangle, triangle_le_square}
pub use Rattle.dl_model.proofs.CompoundLaws.{cell_past, cell_stays, cells_all, no_power, power_past, power_severity, sum_at_zero}
pub use Rattle.dl_model.proofs.FamilyLaws.{cell_at_most_one, encloses_same, nothing_proper, proper_product, rises_times, sum_at_least, sum_at_most, sum_holds, sum_rises, sum_rises_to}
pub use Rattle.dl_model.proofs.Alike.{AreLevel, IsUnder, cancel_value, cauchy_level, ends_in_order, level_both, level_same, level_trans, not_both, same_value, value_sym, value_trans}
pub use Rattle.dl_model.proofs.Least.{least_scaled}
