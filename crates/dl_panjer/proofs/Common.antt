-- The names that the proofs of this crate cite most, passed on from one place. Declares nothing.
pub use Rattle.dl_exact.proofs.BelowOne.{num_below}
pub use Rattle.dl_exact.proofs.Counts.{below_constant, below_first, below_grows, below_le, below_none, below_pairs, below_plus, below_same, below_times, nothing_times, pairs_le, pairs_only, pairs_plus, pairs_same, pairs_within, times_nothing}
pub use Rattle.dl_exact.proofs.Denominators.{over_times, over_zero, units_of}
pub use Rattle.dl_exact.proofs.Laws.{div_pos, div_times, le_of_eq, le_plus, le_refl, le_trans, lt_of_lt_of_le, one_pos, one_times, over_times_whole, plus_comm, plus_le_both, plus_times, plus_zero, ring, times_assoc, times_cancel, times_comm, times_le_both, times_le_cancel, times_le_times, times_left_comm, times_one, times_plus, times_pos, times_zero, whole_plus, whole_pos, whole_times, zero_le, zero_plus, zero_times}
pub use Rattle.dl_exact.proofs.Orders.{times_inward, times_outward, times_right_comm}
pub use Rattle.dl_exact.proofs.Over.{le_over, over_add, over_cross, over_div, over_le, over_mul, over_same, over_self}
pub use Rattle.dl_exact.proofs.Parts.{over_num_le}
pub use Rattle.dl_exact.proofs.Powers.{factorial_pos}
pub use Rattle.dl_exact.proofs.RoundingLaws.{ceiling_div, div_ceil_least, floor_div, le_whole, part_within, whole_le}
pub use Rattle.dl_exact.proofs.Sums.{halving_bound, sum_pairs_le, sum_pairs_plus, sum_pairs_same, sum_pairs_times, sum_to_le, sum_to_same, sum_to_times}
pub use Rattle.dl_exact.proofs.SumsOver.{high_sum, low_sum, sum_pairs_over}
unfoldable pub use Rattle.dl_exact.specs.Count.{count_below}
pub use Rattle.dl_exact.specs.Count.{count_pairs}
pub use Rattle.dl_exact.specs.Fraction.{Fraction, whole}
unfoldable pub use Rattle.dl_exact.specs.Fraction.{◌*ℚ◌, ◌+ℚ◌, ◌/ℚ◌, ◌<ℚ◌, ◌over◌, ◌≤ℚ◌}
pub use Rattle.dl_exact.specs.Rounding.{IsCeiling, IsFloor}
unfoldable pub use Rattle.dl_exact.specs.Sum.{sum_to}
pub use Rattle.dl_exact.specs.Sum.{sum_pairs}
pub use Rattle.dl_frac.proofs.FractionLaws.{unit_fits}
pub use Rattle.dl_frac.specs.Exact.{FitsFrac}
pub use Rattle.dl_grid.proofs.CellLaws.{high_at_read, high_le, low_at_read, one_fits}
pub use Rattle.dl_grid.proofs.EndLists.{ends_of_grid, low_le_high, same_cells}
pub use Rattle.dl_grid.proofs.PlaceSums.{high_at_front, high_at_pushed, high_is, low_at_front, low_at_pushed, whole_mass, whole_spread, width_at}
pub use Rattle.dl_grid.proofs.Room.{mass_fits, size_few}
pub use Rattle.dl_grid.proofs.WidthLaws.{up_ceiling}
pub use Rattle.dl_grid.specs.Cells.{AreEnds, IsGrid, high_ends, low_ends, spread}
unfoldable pub use Rattle.dl_grid.specs.Cells.{high_at, low_at}
pub use Rattle.dl_grid.specs.Room.{IsGridSize}
unfoldable pub use Rattle.dl_grid.specs.Width.{up}
pub use Rattle.dl_iv.proofs.Rounding.{ceiling_reaches, floor_le_ceiling, power_le}
pub use Rattle.dl_iv.specs.declared.interval.Iv.{Iv}
pub use Rattle.dl_limits.specs.Limits.{most_weights}
pub use Rattle.dl_model.proofs.Declared.{at_least_wider, at_most_wider, rises_to}
pub use Rattle.dl_model.proofs.FamilyLaws.{cell_at_most_one, compound_proper}
pub use Rattle.dl_model.proofs.Gamma.{geometric_least}
pub use Rattle.dl_model.proofs.Panjer.{before_in_whole, cell_from_before, cell_zero, gamma_class, poisson_class, recursion_there}
pub use Rattle.dl_model.proofs.PoissonWeights.{poisson_next, poisson_zero}
pub use Rattle.dl_model.proofs.TailScores.{div_is_times}
pub use Rattle.dl_model.proofs.WithinOne.{within_one}
pub use Rattle.dl_model.specs.Compound.{cell}
unfoldable pub use Rattle.dl_model.specs.Compound.{at_zero, power}
pub use Rattle.dl_model.specs.Counts.{IsPanjer, gamma, gamma_of}
unfoldable pub use Rattle.dl_model.specs.Counts.{poisson}
pub use Rattle.dl_model.specs.Family.{Encloses, GridEncloses, compound}
pub use Rattle.dl_model.specs.Recursion.{Recursion, from_before}
pub use Rattle.dl_model.specs.Series.{AtLeast, AtMost, Holds, IsLeastBound, Series}
pub use Rattle.dl_model.specs.Severity.{IsWithinOne}
pub use Rattle.dl_panjer.specs.Bases.{FollowsRounded, IsGeometricBase, IsPoissonBase, StandsByRecursion, StartsAtExp}
pub use Rattle.dl_panjer.specs.Cells.{AreFirstCells, Follows, coefficient, counted, given, high_next, high_next_of_shape, high_of_shape, low_next, low_next_of_shape, low_of_shape, next_sum}
pub use Rattle.dl_panjer.specs.Ends.{exp_high, exp_low, high_exponential, low_exponential}
unfoldable pub use Rattle.dl_panjer.specs.Ends.{high_term, low_term}
pub use Rattle.dl_panjer.specs.Exponential.{EnclosesExp, exponential_sum}
unfoldable pub use Rattle.dl_panjer.specs.Exponential.{exponential_term}
pub use Rattle.dl_panjer.specs.Outward.{FollowsOutward, IsCeilingWithin}
pub use Rattle.dl_panjer.specs.declared.rate.Rate.{Rate}
pub use Rattle.dl_plan.proofs.Clauses.{num_le_den}
pub use Rattle.dl_plan.proofs.Fits.{given_ok, over_fits}
pub use Rattle.dl_plan.proofs.Means.{severity_total, total_pos}
pub use Rattle.dl_plan.proofs.Positive.{amounts_positive, zero_weight}
pub use Rattle.dl_plan.specs.Severity.{probability_of}
pub use Rattle.dl_plan.specs.Weighted.{IsWeighted, amounts_of, weight_at, weight_sum}
pub use Rattle.dl_plan.specs.declared.item.Item.{Item}
pub use Rattle.dl_plan.specs.declared.severity.Sev.{Sev}
pub use Rattle.dl_start.proofs.Products.{two_le}
pub use Rattle.std.proofs.Common.{Bool, List, [], add-one, ap, ap₂, arith, div-mul-le_self, drop, eqb, false, get_or, inl, inr, le_of_mul-le-mul_right, leb, leb-true, length, mul-le-mul, mul-le-mul_left, mul-pos, mul_comm, refl, rules, subst, subst₂, suc, sym, take, true, zero, ℕ, ◌%◌, ◌*◌, ◌++◌, ◌+◌, ◌-◌, ◌/◌, ◌<◌, ◌^◌, ◌∙◌, ◌∷◌, ◌≡◌, ◌≢◌, ◌≤◌, ◌⊎◌}
pub use Rattle.std.proofs.Math.Nat.{div-le_of_le-mul, lt-div-mul-add, min-eq_right, mod-eq_of_lt, mul-le-mul_right, pow-le-pow_right, zero-lt-suc}
pub use Rattle.std.proofs.lemmas.Bool.{cases_lt, eq-eqb, leb-false, ne_eqb}
pub use Rattle.std.proofs.lemmas.Bool.Decides.{eqb_tells}
pub use Rattle.std.proofs.lemmas.Grind.{div_ceil_times}
pub use Rattle.std.proofs.lemmas.List.{get_or-drop, get_or-map, get_or-take, length-drop, length-map, length-take-le, map_more, take_all}
pub use Rattle.std.proofs.lemmas.List.Elements.{All-nil, All-push, All-tail, All-take}
pub use Rattle.std.proofs.lemmas.List.Sorted.{IsNonDecreasingBy-from_all_adjacent, IsPartitionPoint-from_clause, IsPartitionedBy-leb}
pub use Rattle.std.proofs.lemmas.List.Sums.{sum_by-cons, sum_by-take-drop, sum_by-take-le, sum_by_more, sum_by_more_le}
pub use Rattle.std.proofs.lemmas.Nat.{one_shl, pow_pos}
pub use Rattle.std.proofs.lemmas.Result.{IfOk-weaker}
pub use Rattle.std.specs.Int.{div_ceil}
pub use Rattle.std.specs.List.Sorted.{IsNonDecreasingBy, IsStrictlyIncreasing}
pub use Rattle.std.specs.Prelude.{All, if◌then◌else◌, map, min, not, sum_by, ◌==◌}
