-- The names that the proofs of this crate cite most, passed on from one place. Declares nothing.
pub use Rattle.dl_budget.proofs.Horizons.{few_cells, horizon_there, one_horizon, unit_horizon}
pub use Rattle.dl_budget.proofs.NoneSizes.{none_small}
pub use Rattle.dl_budget.proofs.Rows.{◌also◌}
pub use Rattle.dl_budget.proofs.SharedUnits.{shape_rises, thinned_here}
pub use Rattle.dl_budget.proofs.Sums.{budget_here, budgets_length, read_unit}
pub use Rattle.dl_budget.specs.Asks.{joint_budget, joint_by}
pub use Rattle.dl_budget.specs.Claims.{claims_budget, none_budget}
unfoldable pub use Rattle.dl_budget.specs.Claims.{count_budget}
pub use Rattle.dl_budget.specs.Shared.{raised_budget, shape_budget, shared_joint_budget, thinned_at}
pub use Rattle.dl_budget.specs.Units.{after_clause, after_zero as budget_after_zero, mean_after_zero, mean_budget, mean_by, others_budget, total_budget, total_by, unit_budget, unit_budgets, unit_mean_budget}
pub use Rattle.dl_budget.specs.declared.once.UnitBudgets.{UnitBudgets}
pub use Rattle.dl_exact.proofs.Counts.{below_grows as count_below_grows, below_more}
pub use Rattle.dl_exact.proofs.Denominators.{over_le_over, over_split as over_plus}
pub use Rattle.dl_exact.proofs.Laws.{le_refl, le_trans, lt_not_le, lt_of_lt_of_le, lt_or_le, one_pos, plus_le_both, plus_le_cancel, sub_le_both, times_left_comm}
pub use Rattle.dl_exact.proofs.Made.{all_pushed, any_here, each_next, each_pushed, pushed_length, some_inside, some_where}
pub use Rattle.dl_exact.proofs.Over.{over_le, over_lt, over_same, over_self, same}
pub use Rattle.dl_exact.proofs.Results.{if_ok_three, if_ok_two}
pub use Rattle.dl_exact.proofs.RoundingLaws.{ceiling_div, div_ceil_least, up_above}
unfoldable pub use Rattle.dl_exact.specs.Count.{count_below}
pub use Rattle.dl_exact.specs.Fraction.{Fraction, whole, ◌*ℚ◌, ◌-ℚ◌}
unfoldable pub use Rattle.dl_exact.specs.Fraction.{◌+ℚ◌, ◌<ℚ◌, ◌over◌, ◌≤ℚ◌}
unfoldable pub use Rattle.dl_exact.specs.Sum.{sum_over}
pub use Rattle.dl_grid.proofs.WidthLaws.{cv_rises, up_quotient}
pub use Rattle.dl_grid.specs.Cells.{IsGrid, mass_high, mass_low, spread}
unfoldable pub use Rattle.dl_grid.specs.Cells.{high_at, low_at}
pub use Rattle.dl_grid.specs.Room.{IsGridSize}
pub use Rattle.dl_grid.specs.Width.{layer_width, sum_spread, sum_spread as sum_budget, tail_width}
unfoldable pub use Rattle.dl_grid.specs.Width.{convolution_spread, up}
pub use Rattle.dl_iv.specs.declared.interval.Iv.{Iv}
pub use Rattle.dl_limits.proofs.Scales.{bits_of_short, cells_fit, is_plan_scale, total_units}
pub use Rattle.dl_limits.specs.Limits.{IsPlanScale, budget_bound, most_cells_at, most_expected, most_horizon, most_mean, most_mean_budget, most_plan_cells, most_short_cells, most_total_at, most_unit_mean}
unfoldable pub use Rattle.dl_limits.specs.Limits.{bits_of, most_amount_at}
pub use Rattle.dl_model.proofs.Alike.{same_cells_enclosed}
pub use Rattle.dl_model.proofs.Bounded.{are_units}
pub use Rattle.dl_model.proofs.ClauseMeans.{no_clause}
pub use Rattle.dl_model.proofs.Declared.{at_least_wider, at_most_wider}
pub use Rattle.dl_model.proofs.FamilyLaws.{encloses_same}
pub use Rattle.dl_model.proofs.NewZero.{count_new_zero}
pub use Rattle.dl_model.proofs.Outcomes.{total_more, total_more_all}
pub use Rattle.dl_model.proofs.PlanMeans.{MeanHolds, mean_at_most, mean_with_change, units_mean}
pub use Rattle.dl_model.proofs.PlanUnits.{loss_of_declared, plan_declared, plan_units, unit_declared, units_declared}
pub use Rattle.dl_model.proofs.PoissonTotals.{poisson_among}
pub use Rattle.dl_model.proofs.Pooled.{total_cdf, total_layer, total_mean, total_point, total_price, total_tail}
pub use Rattle.dl_model.proofs.Powers.{convolve_assoc, convolve_comm}
pub use Rattle.dl_model.proofs.TotalMeans.{mean_of_total}
pub use Rattle.dl_model.proofs.UnitLaws.{unit_plain}
pub use Rattle.dl_model.proofs.UnitLosses.{unit_declared_loss}
pub use Rattle.dl_model.specs.ChangedZero.{changed}
pub use Rattle.dl_model.specs.CommonFactor.{CountsTotal, pooled_unit}
pub use Rattle.dl_model.specs.CommonUnits.{IsPoissonSum}
pub use Rattle.dl_model.specs.Family.{GridEncloses}
pub use Rattle.dl_model.specs.Measures.{AreDeclared, IsBracketed, IsQuantile, unit_of, without}
pub use Rattle.dl_model.specs.Plans.{after_zero, aggregate_of, aggregates_of, compound_of, count_weights, declared, declared_by, loss_of, outcome_after}
pub use Rattle.dl_model.specs.Prelude.{convolve}
pub use Rattle.dl_model.specs.Program.{AreDeclarable, Cdf, IsLoss, Joint, Layer, Loss, Mean, One, Point, Price, PricedTerm, Quantity, Tail, partial_sums, total}
pub use Rattle.dl_model.specs.Series.{AtLeast, AtMost, Below, Holds, Series}
pub use Rattle.dl_model.specs.Units.{Aggregate, IsDeclared, loss, mapped}
pub use Rattle.dl_outcomes.specs.Means.{HoldsClaims, HoldsKept, most_claims_mean, most_limited}
pub use Rattle.dl_outcomes.specs.Prelude.{HoldsMean, HoldsNone, IsBefore, changed_mean_width, changed_spread}
pub use Rattle.dl_plan.proofs.Horizons.{horizon_one}
pub use Rattle.dl_plan.proofs.Shared.{gamma_unbounded, has_factor, poisson_unbounded, true_shares}
pub use Rattle.dl_plan.proofs.ValidUnits.{mean_most, new_zero}
pub use Rattle.dl_plan.specs.At.{IsIndependentAt, IsPlanAt, IsUnitAt, IsUnitOn}
pub use Rattle.dl_plan.specs.Clause.{Clause}
pub use Rattle.dl_plan.specs.Common.{CanRaise, CanShare, HasCommonFactor, IsPoisson, can_share, is_poisson, raised, thinned_of}
pub use Rattle.dl_plan.specs.Count.{IsUnbounded, expected_count}
pub use Rattle.dl_plan.specs.Horizon.{IsHorizonOf, edge_of}
unfoldable pub use Rattle.dl_plan.specs.Horizon.{horizon}
pub use Rattle.dl_plan.specs.MeanWidth.{mean_width, mean_width as clause_mean, part_width, part_width as layer_budget}
pub use Rattle.dl_plan.specs.Means.{declared_mean, thinned_mean}
pub use Rattle.dl_plan.specs.Severity.{mean_amount, probability_of, shares}
pub use Rattle.dl_plan.specs.Shared.{SharesFactor, independent}
pub use Rattle.dl_plan.specs.Valid.{IsNewZero, IsValid, IsValidUnit}
pub use Rattle.dl_plan.specs.Weighted.{greatest, weight_at}
pub use Rattle.dl_plan.specs.declared.cede.CedeLayer.{CedeLayer}
pub use Rattle.dl_plan.specs.declared.item.Item.{Item}
pub use Rattle.dl_plan.specs.declared.plan.Freq.{Freq}
pub use Rattle.dl_plan.specs.declared.plan.Freq.TheVariants.{Gamma}
pub use Rattle.dl_plan.specs.declared.plan.Plan.{Plan}
pub use Rattle.dl_plan.specs.declared.plan.Unit.{Unit as UnitOfPlan}
pub use Rattle.dl_pool.proofs.Alone.{pooled_thinned, pooled_valid, raised_thinned, raised_valid, same_declared}
pub use Rattle.dl_pool.specs.Extra.{IsExtra}
pub use Rattle.dl_pool.specs.Pooled.{lent}
pub use Rattle.dl_shares.proofs.CommonJoint.{common_exact}
pub use Rattle.dl_shares.proofs.GammaJoint.{gamma_exact}
pub use Rattle.dl_shares.proofs.PoissonJoint.{poisson_exact}
pub use Rattle.dl_shares.specs.Amounts.{claims_mean}
pub use Rattle.dl_shares.specs.Drawn.{AreBeside, AreDrawnOf, AreOthersOf, AreUnitGrids, AreUnitMeans, Declares, Gives, HasMeansOf, IsClaimsGrid, IsClaimsNumber, IsGridOfUnit, IsMeanOf, IsOriginOf, IsTotalOf, IsUnitGrid, IsUnitMean, Reaches}
pub use Rattle.dl_shares.specs.declared.drawn.Drawn.{Drawn}
pub use Rattle.dl_shares.specs.declared.drawn.Origin.{Origin}
pub use Rattle.dl_shares.specs.declared.drawn.Origin.TheVariants.{Beside, Claims, Nowhere}
pub use Rattle.dl_sources.specs.Origins.{AreFactorGrids, AreGridsFor, AreOthers, IsBeside, IsFoundOf, IsWholeClaimsGrid, IsWholeNumber, ReachNamed, StayAmong, factor_origin}
pub use Rattle.dl_sources.specs.Pooled.{IsPooledFor, rest_of, unpooled}
pub use Rattle.dl_sources.specs.Same.{AreAlike, AreAllAlike}
pub use Rattle.dl_sources.specs.Units.{AddMeans, AreMeansOf, AreOutcomesOf, IsClaimsSum, IsClauseGrid, IsClauseMean, IsOutcomeOf, IsSumOfUnits, most_clause_mean}
pub use Rattle.dl_totals.specs.Shared.{AreSumsWithout, EnclosesSum, IsSumWithout, IsTotal}
pub use Rattle.dl_totals.specs.Sums.{EncloseEach}
pub use Rattle.std.proofs.Common.{IsTrue, List, [], add-one, ap, append_assoc, ap₂, arith, drop, false, get_or, inl, inr, length, map, refl, rules, subst, subst₂, suc, sym, take, zero, ℕ, ◌*◌, ◌++◌, ◌+◌, ◌-◌, ◌/◌, ◌<◌, ◌^◌, ◌↔◌, ◌∙◌, ◌∷◌, ◌≡◌, ◌≤◌, ◌⊎◌}
pub use Rattle.std.proofs.Math.Dec.{leb}
pub use Rattle.std.proofs.Math.Nat.{le_of_mul-le-mul_right, mul-le-mul, mul-le-mul_left, mul-le-mul_right, one-le-pow, pow-le-pow_right, suc-add}
pub use Rattle.std.proofs.Math.Seq.{drop-cons, take-add, take-append_seam}
pub use Rattle.std.proofs.lemmas.Bool.{cases_lt}
pub use Rattle.std.proofs.lemmas.Bool.Decides.{Decides-eqb, leb_tells}
pub use Rattle.std.proofs.lemmas.Grind.{div_ceil_times}
pub use Rattle.std.proofs.lemmas.List.{append-nil, drop_all, get_or-map, get_or-replicate, get_or_append_left, get_or_default, get_or_past, get_or_push, length-append, length-drop, length-map, length-replicate, map-append, replicate-append-replicate, same_lists, take_all, take_more}
pub use Rattle.std.proofs.lemmas.List.Elements.{All-append, All-cons, All-drop, All-filter, All-head, All-map, All-nil, All-tail, All-take, filter-append, filter_more}
pub use Rattle.std.proofs.lemmas.List.Sums.{sum_by-cons}
pub use Rattle.std.proofs.lemmas.Nat.{pow_pos}
pub use Rattle.std.proofs.lemmas.Option.{IfSome_then}
pub use Rattle.std.proofs.lemmas.Result.{IfOk-weaker}
pub use Rattle.std.proofs.lemmas.Slice.Eq.{slice_eq-Decides}
pub use Rattle.std.specs.Int.{div_ceil}
pub use Rattle.std.specs.List.{fold, remove, sum_by}
pub use Rattle.std.specs.Option.{option_to_list}
pub use Rattle.std.specs.Prelude.{All, Any, Bool, IfSome, IsNone, IsSome, MatchOption, None, Option, Some, filter, min, option_map, replicate, zip, ◌&&◌}
pub use mathlib.Core.Path.{fun_ext}
