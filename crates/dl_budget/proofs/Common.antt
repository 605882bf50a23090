-- The names that the proofs of this crate cite most, passed on from one place. Declares nothing.
pub use Rattle.dl_budget.specs.Asks.{index_of, joint_by, tail_budget}
unfoldable pub use Rattle.dl_budget.specs.Asks.{in_digits}
pub use Rattle.dl_budget.specs.Claims.{claims_budget, geometric_spread, none_budget, shape_spread, whole_part, whole_spread}
unfoldable pub use Rattle.dl_budget.specs.Claims.{count_budget, gamma_budget, poisson_budget}
pub use Rattle.dl_budget.specs.Halvings.{IsHalvings}
unfoldable pub use Rattle.dl_budget.specs.Halvings.{halvings, halvings_from}
pub use Rattle.dl_budget.specs.Once.{AreBudgetsOf, AreUnitBudgets, IsBudgetOf}
pub use Rattle.dl_budget.specs.Shared.{raised_budget, shape_budget, shared_joint_budget, thinned_at}
pub use Rattle.dl_budget.specs.Sizes.{IsGammaOn, IsOfUnits, most_budget_of, most_mean_budget_of, operands}
pub use Rattle.dl_budget.specs.Units.{after_clause, mean_budget, total_budget, unit_budget, unit_budgets, unit_mean_budget}
pub use Rattle.dl_budget.specs.declared.once.Budgets.{Budgets}
pub use Rattle.dl_budget.specs.declared.once.UnitBudgets.{UnitBudgets}
pub use Rattle.dl_exact.proofs.BelowOne.{below_one, num_below}
pub use Rattle.dl_exact.proofs.Denominators.{over_pos}
pub use Rattle.dl_exact.proofs.Laws.{div_le_both, div_times, le_div, le_plus, le_refl, lt_not_le, one_pos, one_times, plus_zero, times_assoc, times_cancel, times_comm, times_le_both, times_le_times, times_pos, whole_pos}
pub use Rattle.dl_exact.proofs.Lists.{from_there}
pub use Rattle.dl_exact.proofs.Made.{each_pushed, pushed_length}
pub use Rattle.dl_exact.proofs.Orders.{times_right_comm}
pub use Rattle.dl_exact.proofs.Over.{le_over, over_add, over_div, over_le, over_mul, over_self}
pub use Rattle.dl_exact.proofs.Parts.{num_pos}
pub use Rattle.dl_exact.proofs.RoundingLaws.{div_ceil_least, floor_div, le_whole, up_least, whole_le}
pub use Rattle.dl_exact.proofs.Sums.{sum_over_append, sum_over_map}
pub use Rattle.dl_exact.specs.Fraction.{Fraction, whole, ◌*ℚ◌, ◌+ℚ◌, ◌/ℚ◌, ◌<ℚ◌, ◌over◌}
unfoldable pub use Rattle.dl_exact.specs.Fraction.{◌/ℚ◌, ◌over◌, ◌≤ℚ◌}
unfoldable pub use Rattle.dl_exact.specs.Sum.{sum_over}
pub use Rattle.dl_frac.specs.Exact.{FitsFrac}
pub use Rattle.dl_grid.proofs.WidthLaws.{cv_is, cv_rises, mixed_next, mixed_none, pw_doubled, pw_even, pw_none, pw_odd, pw_one, pw_rises, size_joined, size_step, up_quotient}
pub use Rattle.dl_grid.specs.Width.{IsSizeWithin, sum_spread}
unfoldable pub use Rattle.dl_grid.specs.Width.{convolution_spread, mixed_spread, power_spread, rounded_spread, up}
pub use Rattle.dl_limits.proofs.Scales.{cells_fit, horizon_fits}
pub use Rattle.dl_limits.specs.Limits.{IsPlanScale, most_amount, most_cells, most_claims_budget, most_expected, most_horizon, most_none_budget, most_operands, most_plan_cells, most_sum_operands, most_tail_budget, most_unit_budget, rarest_parts, standard_units}
pub use Rattle.dl_plan.proofs.CommonDenominators.{common_pos, den_divides}
pub use Rattle.dl_plan.proofs.Few.{are_few, sum_of_few, sum_of_standard}
pub use Rattle.dl_plan.proofs.Fits.{given_ok, given_value}
pub use Rattle.dl_plan.proofs.Horizons.{horizon_edges, horizon_is, same_horizon}
pub use Rattle.dl_plan.proofs.Means.{admitted_fits}
pub use Rattle.dl_plan.proofs.Shared.{poisson_unbounded}
pub use Rattle.dl_plan.proofs.TermLevels.{level_there, levels_each}
pub use Rattle.dl_plan.proofs.ValidUnits.{alone_valid, mean_most, near_in_any, new_zero}
pub use Rattle.dl_plan.proofs.Weights.{greatest_within}
pub use Rattle.dl_plan.proofs.WholeParts.{part_within, sum_one, weight_more}
pub use Rattle.dl_plan.specs.Clause.{Clause}
pub use Rattle.dl_plan.specs.Prelude.{AreFew, CanShare, HasCommonFactor, HasPartsOf48Bits, HorizonPasses, IsAggregate, IsClaimCount, IsGammaCount, IsHorizon, IsHorizonOf, IsLevel, IsNewZero, IsPoisson, IsShape, IsSomeClaim, IsThinnedGamma, IsThinnedTo, IsUnbounded, IsValid, IsValidUnit, claims_alone, common_denominator, declared_mean, edge, expected_count, expected_of, mean_width, numerator_over, part_width, raised, thinned_mean, thinned_of}
unfoldable pub use Rattle.dl_plan.specs.Prelude.{horizon}
pub use Rattle.dl_plan.specs.Terms.{ArePriced, most_weight_parts}
pub use Rattle.dl_plan.specs.Weighted.{greatest}
pub use Rattle.dl_plan.specs.declared.cede.CedeLayer.{CedeLayer}
pub use Rattle.dl_plan.specs.declared.item.Item.{Item}
pub use Rattle.dl_plan.specs.declared.plan.Freq.{Freq}
pub use Rattle.dl_plan.specs.declared.plan.Freq.TheVariants.{Bernoulli, Binomial, Fixed, Gamma, Poisson, Table}
pub use Rattle.dl_plan.specs.declared.plan.Plan.{Plan}
pub use Rattle.dl_plan.specs.declared.plan.Unit.{Unit as UnitOfPlan}
pub use Rattle.dl_plan.specs.declared.settings.Term.{Term}
pub use Rattle.dl_plan.specs.declared.severity.Sev.{Sev}
pub use Rattle.std.proofs.Common.{List, [], add-one, ap, ap₂, arith, bytes_eq, drop, get_or, inl, inr, length, refl, rules, subst, subst₂, suc, sym, take, tests, zero, ℕ, ◌%◌, ◌*◌, ◌++◌, ◌+◌, ◌-◌, ◌/◌, ◌<◌, ◌^◌, ◌∙◌, ◌∷◌, ◌≡◌, ◌≤◌}
pub use Rattle.std.proofs.Math.Nat.{div-eq_of_lt, div-mul_cancel, eq-zero-or-pos, le_of_mul-le-mul_right, le_trans, mod-eq_of_lt, mod-le, mul-le-mul, mul-le-mul_left, mul-le-mul_right, mul-pos, pow-le-pow_right, pow-suc}
pub use Rattle.std.proofs.lemmas.Bool.{cases_lt}
pub use Rattle.std.proofs.lemmas.Bool.Decides.{eqb_tells, leb_tells}
pub use Rattle.std.proofs.lemmas.Grind.{common_steps, div_ceil_times, pow_more}
pub use Rattle.std.proofs.lemmas.Iterator.{YieldsList-from_slice}
pub use Rattle.std.proofs.lemmas.Iterator.Search.{position_from_yields_List}
pub use Rattle.std.proofs.lemmas.List.{drop-drop, drop-map, get_or-map, length-drop, length-map, length-take, take-map, take_all, take_more}
pub use Rattle.std.proofs.lemmas.List.Elements.{All-cons, All-drop, All-head, All-tail, All-take}
pub use Rattle.std.proofs.lemmas.List.Sums.{fold-append, fold_more, prefix_len-le-length, sum_by-cons, sum_by-drop_more, sum_by-take-drop, sum_by-take-le, sum_by_more, sum_by_more_le}
pub use Rattle.std.proofs.lemmas.Nat.{le-div, pow_pos}
pub use Rattle.std.specs.Int.{div_ceil}
pub use Rattle.std.specs.List.{fold, remove, sum_by}
pub use Rattle.std.specs.Prelude.{All, Any, Bool, IfSome, IsSome, MatchOption, None, Option, Some, cond, false, if◌then◌else◌, is_some, ltb, map, true, unwrap_or, ◌==◌}
