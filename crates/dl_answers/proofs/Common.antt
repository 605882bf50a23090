-- The names that the proofs of this crate cite most, passed on from one place. Declares nothing.
pub use Rattle.dl_answers.specs.Answers.{AreInside, HasShare, NameUnits}
pub use Rattle.dl_answers.specs.Grounds.{IsGround, IsJointOf, IsPart, Prints, cells_read, reach_of, total_of}
pub use Rattle.dl_answers.specs.Rows.{AreRowEnds, DeclaresGiven, DeclaresShare, DeclaresTail, IsAnswerTo, IsAtLeast, IsAtMost, IsBelow, IsBeyond, IsBeyondSome, IsBracket, IsGood, IsNoTailShare, IsPastAbove, IsPastGrid, IsPrice, IsPriceBetween, IsShareOfUnit, IsTailMean, IsTailShare, IsTooRare, at_the_end, bracket_end, least_likely, scale, total_error}
pub use Rattle.dl_answers.specs.declared.reports.Ground.{Ground}
pub use Rattle.dl_answers.specs.declared.shares.Part.{Part}
pub use Rattle.dl_budget.proofs.Horizons.{few_cells}
pub use Rattle.dl_budget.proofs.Rows.{◌also◌}
pub use Rattle.dl_budget.specs.Asks.{IsAskOf, IsInside, IsNamed, NamesUnit, Passes, cotail_budget, index_of, joint_budget, kappa_budget, layer_mean_budget, named_unit, named_units, price_budget, share_budget, tail_budget, undivided_by}
unfoldable pub use Rattle.dl_budget.specs.Asks.{ask_budget, in_digits}
pub use Rattle.dl_budget.specs.Claims.{claims_budget, none_budget}
pub use Rattle.dl_budget.specs.Once.{AreBudgetsOfUnit, HaveBudgets}
pub use Rattle.dl_budget.specs.Units.{mean_after_zero, mean_budget, total_budget, unit_mean_budget}
pub use Rattle.dl_exact.proofs.BelowOne.{num_below}
pub use Rattle.dl_exact.proofs.Counts.{below_grows as count_below_grows, below_more}
pub use Rattle.dl_exact.proofs.Denominators.{over_le_over, over_split as over_plus}
pub use Rattle.dl_exact.proofs.Laws.{le_refl, le_trans, lt_not_le, lt_of_lt_of_le, lt_or_le, plus_le_both, plus_le_cancel, sub_le_both}
pub use Rattle.dl_exact.proofs.Made.{all_pairs, any_here, each_next, pushed_length}
pub use Rattle.dl_exact.proofs.Over.{over_le, over_lt}
pub use Rattle.dl_exact.proofs.RoundingLaws.{div_ceil_least}
unfoldable pub use Rattle.dl_exact.specs.Count.{count_below}
pub use Rattle.dl_exact.specs.Fraction.{Fraction, whole, ◌-ℚ◌}
unfoldable pub use Rattle.dl_exact.specs.Fraction.{◌+ℚ◌, ◌<ℚ◌, ◌over◌, ◌≤ℚ◌}
pub use Rattle.dl_grid.proofs.PlaceSums.{high_is, low_sum, width_at, width_within}
pub use Rattle.dl_grid.proofs.WidthLaws.{up_quotient}
pub use Rattle.dl_grid.specs.Cells.{IsGrid, mass_high, mass_low, spread}
unfoldable pub use Rattle.dl_grid.specs.Cells.{high_at, low_at}
pub use Rattle.dl_grid.specs.Width.{layer_width, tail_width}
unfoldable pub use Rattle.dl_grid.specs.Width.{up}
pub use Rattle.dl_iv.specs.declared.interval.Iv.{Iv}
pub use Rattle.dl_limits.specs.Limits.{IsPlanScale, most_plan_cells, most_short_cells}
unfoldable pub use Rattle.dl_limits.specs.Limits.{bits_of}
pub use Rattle.dl_measures.proofs.CellEnds.{cdf_ends}
pub use Rattle.dl_measures.proofs.Sums.{apart, high_mass, low_high, low_most}
pub use Rattle.dl_measures.specs.Brackets.{IsFirstAtLeast, IsFirstFound}
pub use Rattle.dl_measures.specs.Ends.{IsTight, high_cdf, low_cdf}
pub use Rattle.dl_measures.specs.Prices.{AreQuantiles, AreTermsOf, price_width}
pub use Rattle.dl_model.proofs.Bounded.{are_units}
pub use Rattle.dl_model.proofs.CommonPlans.{are_severities, greatest_of, pooled_past, some}
pub use Rattle.dl_model.proofs.Declared.{at_least_wider, at_most_wider}
pub use Rattle.dl_model.proofs.PlanUnits.{plan_declared}
pub use Rattle.dl_model.proofs.Pooled.{total_cdf, total_layer, total_mean, total_point, total_price, total_tail}
pub use Rattle.dl_model.proofs.PooledLoss.{as_one_loss, one_declared}
pub use Rattle.dl_model.specs.CommonFactor.{CountsTotal, pooled_unit}
pub use Rattle.dl_model.specs.CommonUnits.{poisson_units}
pub use Rattle.dl_model.specs.Family.{GridEncloses}
pub use Rattle.dl_model.specs.Measures.{AreDeclared, IsBracketed, IsQuantile}
pub use Rattle.dl_model.specs.Plans.{aggregates_of, declared, declared_by, loss_of}
pub use Rattle.dl_model.specs.Prelude.{HoldsShare, Outcome}
pub use Rattle.dl_model.specs.Program.{AreDeclarable, Cdf, Joint, Layer, Loss, Mean, One, Point, Price, PricedTerm, Quantity, Tail, partial_sums, total}
pub use Rattle.dl_model.specs.Series.{AtLeast, AtMost, Below, Holds, Series}
pub use Rattle.dl_model.specs.Units.{loss}
pub use Rattle.dl_plan.proofs.Shared.{has_factor}
pub use Rattle.dl_plan.proofs.TermLevels.{levels_each}
pub use Rattle.dl_plan.specs.At.{IsPlanAt}
pub use Rattle.dl_plan.specs.Common.{CanShare, HasCommonFactor}
pub use Rattle.dl_plan.specs.Facts.{facts_of}
pub use Rattle.dl_plan.specs.Horizon.{edge_of}
unfoldable pub use Rattle.dl_plan.specs.Horizon.{horizon}
pub use Rattle.dl_plan.specs.MeanWidth.{mean_width}
pub use Rattle.dl_plan.specs.Means.{declared_mean}
pub use Rattle.dl_plan.specs.Ranges.{AreInRange, IsAskInRange, IsLevel}
pub use Rattle.dl_plan.specs.Valid.{IsValid}
pub use Rattle.dl_plan.specs.declared.plan.Plan.{Plan}
pub use Rattle.dl_plan.specs.declared.plan.Unit.{Unit as UnitOfPlan}
pub use Rattle.dl_plan.specs.declared.settings.Ask.{Ask}
pub use Rattle.dl_plan.specs.declared.settings.Ask.TheVariants.{LayerMean}
pub use Rattle.dl_plan.specs.declared.settings.Asked.{Asked}
pub use Rattle.dl_plan.specs.declared.settings.Settings.{Settings}
pub use Rattle.dl_plan.specs.declared.settings.Term.{Term}
pub use Rattle.dl_report.specs.declared.report.End.{End}
pub use Rattle.dl_report.specs.declared.report.End.TheVariants.{Beyond, Whole}
pub use Rattle.dl_report.specs.declared.report.Row.{Row}
pub use Rattle.dl_shares.proofs.Origins.{plan_scale, reaches_less, scale_least}
pub use Rattle.dl_shares.specs.Drawn.{Declares, IsMeanOf, IsTotalOf, Reaches}
pub use Rattle.dl_shares.specs.Settled.{IsPast, MayBeAbsent}
pub use Rattle.dl_shares.specs.Source.{GivesJoints, IsSharedBy, joint_width}
pub use Rattle.dl_shares.specs.Widths.{conditional_width, share_width, whole_share_width}
pub use Rattle.std.proofs.Common.{List, [], add-one, ap, arith, get_or, inl, inr, length, map, refl, subst, subst₂, suc, sym, take, zero, ℕ, ◌*◌, ◌+◌, ◌-◌, ◌/◌, ◌<◌, ◌^◌, ◌↔◌, ◌∙◌, ◌∷◌, ◌≡◌, ◌≤◌, ◌⊎◌}
pub use Rattle.std.proofs.Math.Nat.{le_of_mul-le-mul_right, mul-le-mul, mul-le-mul_left, mul-le-mul_right, one-le-pow, pow-le-pow_right}
pub use Rattle.std.proofs.lemmas.Bool.{cases_lt}
pub use Rattle.std.proofs.lemmas.Bool.Decides.{leb_tells}
pub use Rattle.std.proofs.lemmas.Grind.{div_ceil_times}
pub use Rattle.std.proofs.lemmas.List.{get_or-map, get_or_default, length-map}
pub use Rattle.std.proofs.lemmas.List.Elements.{All-head, All-map}
pub use Rattle.std.proofs.lemmas.Nat.{pow_pos}
pub use Rattle.std.specs.Int.{div_ceil}
pub use Rattle.std.specs.Prelude.{All, Any, IfSome, IsNone, MatchOption, None, Option, Some, min, option_map, zip}
pub use mathlib.Core.Path.{fun_ext}
