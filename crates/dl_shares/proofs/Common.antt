-- The names that the proofs of this crate cite most, passed on from one place. Declares nothing.
pub use Rattle.dl_budget.proofs.Horizons.{few_cells, unit_horizon}
pub use Rattle.dl_budget.proofs.Rows.{◌also◌}
pub use Rattle.dl_budget.proofs.Sums.{budget_here, read_unit}
pub use Rattle.dl_budget.specs.Asks.{joint_budget}
pub use Rattle.dl_budget.specs.Shared.{shared_joint_budget}
pub use Rattle.dl_budget.specs.Units.{others_budget, unit_budgets}
pub use Rattle.dl_exact.proofs.Counts.{below_first, below_le, below_pairs, below_plus, below_same, below_times, nothing_times, pairs_le, pairs_none, pairs_only, pairs_past, pairs_plus, pairs_same, pairs_within, times_nothing}
pub use Rattle.dl_exact.proofs.Denominators.{over_le_over, over_minus, over_plus, over_pos, over_times, over_zero, same_num}
pub use Rattle.dl_exact.proofs.GcdLaws.{gcd_is}
pub use Rattle.dl_exact.proofs.Laws.{div_times, le_of_eq, le_refl, plus_comm, ring, times_assoc, times_comm, times_le_both, times_left_comm, times_one, times_zero, zero_le}
pub use Rattle.dl_exact.proofs.Multiples.{part_divides}
pub use Rattle.dl_exact.proofs.Over.{le_over, lt_over, over_den, over_le, over_mul, over_sub}
pub use Rattle.dl_exact.proofs.Parts.{whole_num}
pub use Rattle.dl_exact.proofs.RoundingLaws.{div_ceil_least, whole_le}
pub use Rattle.dl_exact.proofs.Sums.{sum_pairs_le, sum_pairs_same, sum_pairs_sum_to, sum_to_first, sum_to_same, sum_to_times, sum_to_times_right}
pub use Rattle.dl_exact.proofs.SumsOver.{sum_pairs_over, to_over}
unfoldable pub use Rattle.dl_exact.specs.Count.{count_pairs}
pub use Rattle.dl_exact.specs.Gcd.{gcd}
pub use Rattle.dl_exact.specs.Sum.{sum_below, sum_pairs, sum_to}
unfoldable pub use Rattle.dl_exact.specs.Sum.{sum_to}
pub use Rattle.dl_grid.proofs.CellLaws.{high_le}
pub use Rattle.dl_grid.proofs.EndLists.{low_le_high}
pub use Rattle.dl_grid.proofs.PlaceSums.{high_is, low_sum, low_within, width_at, width_within}
unfoldable pub use Rattle.dl_grid.proofs.Products.{products_apart}
pub use Rattle.dl_grid.proofs.Products.{pairs_apart}
pub use Rattle.dl_grid.proofs.Room.{grid_room, size_few, size_within}
pub use Rattle.dl_grid.proofs.WidthLaws.{cv_is, cv_rises, up_quotient}
pub use Rattle.dl_grid.specs.Cells.{mass_low}
pub use Rattle.dl_grid.specs.Room.{HasRoom}
unfoldable pub use Rattle.dl_grid.specs.Width.{up}
pub use Rattle.dl_iv.proofs.Enclosures.{lies_between}
pub use Rattle.dl_iv.proofs.Operations.{div_high, div_low, scale_high, scale_low}
pub use Rattle.dl_iv.proofs.Rounding.{ceiling_reaches, floor_le_ceiling, round_down, round_up}
pub use Rattle.dl_iv.specs.Enclosure.{LiesIn}
pub use Rattle.dl_limits.proofs.Scales.{is_plan_scale}
pub use Rattle.dl_limits.specs.Limits.{IsPlanScale, bits_of, most_horizon}
pub use Rattle.dl_measures.proofs.CellEnds.{cdf_ends, cdf_within}
pub use Rattle.dl_measures.proofs.Common.{AreDeclarable, AreDeclared, AtLeast, AtMost, Cdf, Fraction, GridEncloses, Holds, IsFirstAtLeast, IsFirstFound, IsGrid, IsQuantile, Iv, List, Loss, Mean, One, Point, Some, Tail, add-one, ap, ap₂, are_units, arith, at_least_wider, at_most_wider, below_grows, below_more, below_nothing, cases_lt, cells_fit, div_ceil, fun_ext, get_or, high_at, high_cdf, inl, inr, length, low_at, low_cdf, lt_not_le, mass_high, min, min-eq_left, min-eq_right, mul-le-mul, mul-le-mul_left, mul-le-mul_right, mul-pos, num_below, one_fits, one_pos, outcomes_rise, over_add, over_lt, over_same, over_self, partial_sums, pow_pos, quantity_bounded, refl, scale_of, score, size_of, spread, subst, subst₂, suc, sym, take, to_holds, total, whole, zero, ℕ, ◌*ℚ◌, ◌*◌, ◌+ℚ◌, ◌+◌, ◌-ℚ◌, ◌-◌, ◌/ℚ◌, ◌/◌, ◌<ℚ◌, ◌<◌, ◌^◌, ◌over◌, ◌∙◌, ◌≡◌, ◌≤ℚ◌, ◌≤◌}
unfoldable pub use Rattle.dl_measures.proofs.Common.{count_below}
pub use Rattle.dl_measures.proofs.Reached.{is_around, is_bracket, is_tight, more, next_sum}
pub use Rattle.dl_measures.proofs.Sums.{apart, high_mass, low_high, low_most}
pub use Rattle.dl_measures.proofs.TailLaws.{in_order, inverse, parts, quotients_apart, rest, rest_above, rest_pos}
pub use Rattle.dl_model.proofs.Alike.{AreLevel, ends_in_order, level_both, level_same, level_trans, same_value}
pub use Rattle.dl_model.proofs.Bounded.{IsDistribution, losses_distribution}
pub use Rattle.dl_model.proofs.CommonMeans.{shared_outcome}
pub use Rattle.dl_model.proofs.CommonPlans.{are_severities, by_factor, declared_is, expected_units, is_unit, plan_distribution}
pub use Rattle.dl_model.proofs.Declared.{at_least_times, at_most_plus, at_most_times, holds_times, quotient, scaled, scaled_rises, self_holds}
pub use Rattle.dl_model.proofs.FamilyLaws.{nothing_proper, rises_times, sum_at_least, sum_at_most, sum_holds, sum_rises, sum_rises_to}
pub use Rattle.dl_model.proofs.Gamma.{gamma_next, gamma_plus, gamma_shift}
pub use Rattle.dl_model.proofs.GammaThin.{one_least, shape_times, share_of}
pub use Rattle.dl_model.proofs.ItemWeights.{shares_severity}
pub use Rattle.dl_model.proofs.Itself.{level_sum, product_level}
pub use Rattle.dl_model.proofs.Joint.{joint_cells}
pub use Rattle.dl_model.proofs.Least.{over_factor}
pub use Rattle.dl_model.proofs.Outcomes.{loss_proper, mean_alone, outcomes_le, outcomes_same, outcomes_times, total_alone_all, total_more, total_more_all, total_proper}
pub use Rattle.dl_model.proofs.PlanShares.{atom_least, atom_most, atom_whole, cdf_most_one, cdf_points, declared_weighed, is_weighing, quantity_rises, units_joint_means, units_shares, weighing_of}
pub use Rattle.dl_model.proofs.PlanUnits.{plan_declared, plan_units}
pub use Rattle.dl_model.proofs.PoissonWeights.{poisson_next}
pub use Rattle.dl_model.proofs.Powers.{convolve_assoc, convolve_first, convolve_scaled, convolve_times, power_tilt, tilt_at_zero}
pub use Rattle.dl_model.proofs.ShareEnds.{AtomLeast, AtomMost}
pub use Rattle.dl_model.proofs.SharedValues.{joint_raised}
pub use Rattle.dl_model.proofs.TailEnds.{rest_is}
pub use Rattle.dl_model.proofs.TailScores.{div_is_times}
pub use Rattle.dl_model.proofs.UnitLaws.{unit_loss, unit_plain}
pub use Rattle.dl_model.proofs.Without.{unit_is, without_units}
pub use Rattle.dl_model.specs.CommonFactor.{IsUnit, PoissonUnit, common_sums, expected_claims, pooled_severity}
pub use Rattle.dl_model.specs.CommonUnits.{poisson_unit, poisson_units}
pub use Rattle.dl_model.specs.Compound.{cell, convolve}
unfoldable pub use Rattle.dl_model.specs.Compound.{at_zero, power}
pub use Rattle.dl_model.specs.Counts.{gamma, gamma_of, poisson}
pub use Rattle.dl_model.specs.Family.{Encloses, Family, IsProper, compound}
pub use Rattle.dl_model.specs.Measures.{level_mean, unit_of, without}
pub use Rattle.dl_model.specs.Plans.{after_zero, aggregate_of, compound_of, count_weights, declared, outcome_after}
pub use Rattle.dl_model.specs.Prelude.{IsBracketed}
pub use Rattle.dl_model.specs.Program.{IsLoss, Joint, Outcome, Part, Quantity, Share, where_true}
unfoldable pub use Rattle.dl_model.specs.Program.{sum_over_outcomes}
pub use Rattle.dl_model.specs.Series.{Rises, Series, plus, times}
pub use Rattle.dl_model.specs.Shares.{HoldsShare}
pub use Rattle.dl_model.specs.Units.{IsDeclarable}
pub use Rattle.dl_plan.proofs.Means.{positive_share, severity_total, weight_at-le}
pub use Rattle.dl_plan.proofs.Shared.{has_factor}
pub use Rattle.dl_plan.specs.Common.{HasCommonFactor, raised}
pub use Rattle.dl_plan.specs.Count.{IsClaimCount}
pub use Rattle.dl_plan.specs.Fine.{numerator_over}
pub use Rattle.dl_plan.specs.Prelude.{CanShare, IsHorizonOf, IsValid, IsValidUnit, expected_count, thinned_mean, weight_at, weight_sum}
pub use Rattle.dl_plan.specs.Severity.{probability_of}
pub use Rattle.dl_plan.specs.Shared.{SharesFactor, independent}
pub use Rattle.dl_plan.specs.Weighted.{greatest}
pub use Rattle.dl_plan.specs.declared.item.Item.{Item}
pub use Rattle.dl_plan.specs.declared.plan.Freq.{Freq}
pub use Rattle.dl_plan.specs.declared.plan.Freq.TheVariants.{Bernoulli, Binomial, Fixed, Gamma, Poisson, Table}
pub use Rattle.dl_plan.specs.declared.plan.Plan.{Plan}
pub use Rattle.dl_plan.specs.declared.plan.Unit.{Unit as UnitOfPlan}
pub use Rattle.dl_plan.specs.declared.severity.Sev.{Sev}
pub use Rattle.dl_pool.proofs.GammaUnits.{gamma_count}
pub use Rattle.dl_pool.proofs.Units.{poisson_weights}
pub use Rattle.dl_pool.specs.Extra.{CanRaise, IsExtra, extra_count}
pub use Rattle.dl_pool.specs.Pooled.{IsRaised}
pub use Rattle.dl_severity.proofs.Sharing.{share_is}
pub use Rattle.dl_shares.specs.Amounts.{amounts_to, claims_mean}
pub use Rattle.dl_shares.specs.Claims.{HasClaims, IsPoissonOrGamma, claims_down, claims_up}
pub use Rattle.dl_shares.specs.Drawn.{AreOthersOf, Gives, IsClaimsGrid, IsGridOfUnit, IsOriginOf, IsSourceOf, Reaches}
pub use Rattle.dl_shares.specs.Settled.{IsBracketIn, IsOpen, IsPast, IsRare, MayBeAbsent}
pub use Rattle.dl_shares.specs.Source.{GivesJoints, exact_high, exact_low, reach}
pub use Rattle.dl_shares.specs.Sums.{high_sums, low_sums, sums_of, weighted_to}
pub use Rattle.dl_shares.specs.Tails.{high_above, low_above, part_down, part_up}
pub use Rattle.dl_shares.specs.Weighted.{high_weighted, low_weighted}
pub use Rattle.dl_shares.specs.Widths.{beside_width, conditional_width, share_width, whole_share_width}
pub use Rattle.dl_shares.specs.declared.drawn.Drawn.{Drawn}
pub use Rattle.dl_shares.specs.declared.drawn.Origin.{Origin}
pub use Rattle.dl_shares.specs.declared.drawn.Origin.TheVariants.{Beside, Claims, Nowhere}
pub use Rattle.dl_shares.specs.declared.source.OverClaims.{OverClaims}
pub use Rattle.dl_shares.specs.declared.source.ShareSource.{ShareSource}
pub use Rattle.std.proofs.Common.{Bool, None, [], cond, eq-eqb, ne_eqb, ◌==◌, ◌∷◌, ◌≢◌}
pub use Rattle.std.proofs.Math.Decide.{le_ind}
pub use Rattle.std.proofs.Math.Nat.{div-le_of_le-mul, div-mul-le_self, le_of_mul-le-mul_right, le_trans, lt-div-mul-add, min-le_left, zero-div}
pub use Rattle.std.proofs.lemmas.Bool.{le-leb, lt-leb}
pub use Rattle.std.proofs.lemmas.Bool.Decides.{leb_tells}
pub use Rattle.std.proofs.lemmas.Grind.{div_ceil_times}
pub use Rattle.std.proofs.lemmas.List.{get_or-map, get_or_default, length-map, take_all}
pub use Rattle.std.proofs.lemmas.List.Sums.{sum_by-cons, sum_by-take-le, sum_by_more}
pub use Rattle.std.specs.Prelude.{false, max, nat_le, true}
