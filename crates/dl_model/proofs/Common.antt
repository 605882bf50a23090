-- The names that the proofs of this crate cite most, passed on from one place, and what `grw` may use on an order.
pub use Rattle.dl_exact.proofs.Bernoulli.{bernoulli, pow_below_one}
pub use Rattle.dl_exact.proofs.Denominators.{over_one, over_plus, over_pos, over_rest, over_times, over_zero}
pub use Rattle.dl_exact.proofs.GcdLaws.{gcd_is}
pub use Rattle.dl_exact.proofs.Laws.{archimedes, div_pos, div_times, le_antisymm, le_div, le_of_eq, le_of_lt, le_plus, le_refl, le_sub, le_trans, lt_gap, lt_not_le, lt_of_le_of_lt, lt_of_lt_of_le, lt_or_le, one_pos, one_times, over_times_whole, plus_assoc, plus_cancel, plus_comm, plus_le_both, plus_le_cancel, plus_le_from_sub, plus_le_plus, plus_times, plus_zero, pos_of_inverse, ring, sub_le_both, sub_nothing, sub_plus, times_assoc, times_cancel, times_comm, times_le_both, times_le_cancel, times_le_times, times_left_comm, times_one, times_plus, times_pos, times_zero, whole_plus, whole_pos, whole_suc, whole_times, zero_le, zero_or_pos, zero_plus, zero_times}
pub use Rattle.dl_exact.proofs.Lists.{item_le_total}
pub use Rattle.dl_exact.proofs.Orders.{plus_swap, times_reverse, times_right_comm, times_second, times_swap}
pub use Rattle.dl_exact.proofs.Over.{le_over, over_add, over_cross, over_div, over_le, over_lt, over_mul, over_same, over_self, over_sub}
pub use Rattle.dl_exact.proofs.Parts.{whole_den, whole_num}
pub use Rattle.dl_exact.proofs.Powers.{factorial_pos, pow_plus, pow_times}
pub use Rattle.dl_exact.proofs.RoundingLaws.{whole_le}
pub use Rattle.dl_exact.proofs.Sums.{halving_bound, item_le_sum, sum_below_constant, sum_over_map, sum_over_same, sum_over_times, sum_pairs_assoc, sum_pairs_first, sum_pairs_last, sum_pairs_le, sum_pairs_none, sum_pairs_plus, sum_pairs_same, sum_pairs_sum_to, sum_pairs_swap, sum_pairs_times, sum_pairs_times_right, sum_pairs_turn, sum_pairs_weighed, sum_to_either, sum_to_first, sum_to_grows, sum_to_le, sum_to_longer, sum_to_none, sum_to_pairs, sum_to_plus, sum_to_product, sum_to_same, sum_to_swap, sum_to_times, sum_to_times_right, sum_to_zero}
pub use Rattle.dl_exact.proofs.SumsOver.{pairs_in_units, sum_pairs_over, sum_to_over, to_over}
unfoldable pub use Rattle.dl_exact.specs.Count.{count_pairs}
pub use Rattle.dl_exact.specs.Count.{count_below}
pub use Rattle.dl_exact.specs.Fraction.{Fraction, whole, ◌-ℚ◌, ◌/ℚ◌, ◌<ℚ◌, ◌over◌}
unfoldable pub use Rattle.dl_exact.specs.Fraction.{◌*ℚ◌, ◌+ℚ◌, ◌-ℚ◌, ◌/ℚ◌, ◌<ℚ◌, ◌over◌, ◌≤ℚ◌}
pub use Rattle.dl_exact.specs.Gcd.{gcd}
unfoldable pub use Rattle.dl_exact.specs.Power.{choose, factorial, ◌^ℚ◌}
unfoldable pub use Rattle.dl_exact.specs.Sum.{sum_below, sum_over, sum_pairs, sum_to}
pub use Rattle.dl_grid.specs.Cells.{high_at, low_at}
unfoldable pub use Rattle.dl_grid.specs.Cells.{all_at_zero}
pub use Rattle.dl_grid.specs.Convolution.{IsConvolution}
pub use Rattle.dl_iv.specs.declared.interval.Iv.{Iv}
pub use Rattle.dl_model.specs.ChangedZero.{IsWithNone, changed, changed_end, with_claims, with_none}
unfoldable pub use Rattle.dl_model.specs.ChangedZero.{without_none}
pub use Rattle.dl_model.specs.CommonFactor.{AreSeverities, Claims, CountsTotal, IsUnit, PoissonUnit, amounts, amounts_given_counts, chances, common_sums, expected_claims, pooled_severity, pooled_unit, ways_to_share}
unfoldable pub use Rattle.dl_model.specs.CommonFactor.{product_over, sum_over_claims}
pub use Rattle.dl_model.specs.CommonUnits.{IsPoissonSum, poisson_unit, poisson_units}
pub use Rattle.dl_model.specs.Compound.{cell, cell_from, convolve}
unfoldable pub use Rattle.dl_model.specs.Compound.{at_zero, power}
pub use Rattle.dl_model.specs.Counts.{AreCountWeights, IsPanjer, binomial, fixed, gamma_of}
unfoldable pub use Rattle.dl_model.specs.Counts.{gamma, poisson, product_below}
pub use Rattle.dl_model.specs.Divided.{divided_power}
pub use Rattle.dl_model.specs.Family.{Encloses, Family, GridEncloses, IsProper, SameCells, compound, nothing, product, times_itself}
pub use Rattle.dl_model.specs.Listed.{equally_likely, probability_at}
pub use Rattle.dl_model.specs.Measures.{AreDeclared, ArePriced, IsAsked, IsBracketed, IsDeclaredLoss, IsQuantile, above, level_mean, survival, unit_of, without}
pub use Rattle.dl_model.specs.Plans.{after_zero, aggregate_of, aggregates_of, claims_of, compound_of, count_weights, declared, declared_by, loss_of, mean_ceded, outcome_after}
pub use Rattle.dl_model.specs.Program.{AreDeclarable, Cdf, IsLoss, Joint, Layer, Loss, Mean, One, Outcome, Part, Point, Price, PricedTerm, Quantity, Share, Tail, above_quantile, partial_sums, score, total, where_true}
unfoldable pub use Rattle.dl_model.specs.Program.{sum_over_outcomes}
pub use Rattle.dl_model.specs.Recursion.{Recursion, from_before}
pub use Rattle.dl_model.specs.Series.{AtLeast, AtMost, Below, Holds, IsBound, IsLeastBound, Rises, SameBounds, SameValue, Series, Settles, plus, times}
pub use Rattle.dl_model.specs.Severity.{IsPositivePart, IsSeverity, IsWithinOne}
pub use Rattle.dl_model.specs.Shares.{HoldsShare}
pub use Rattle.dl_model.specs.Units.{Aggregate, IsDeclarable, IsDeclared, listed_aggregate, loss, mapped, outcome, plain}
unfoldable pub use Rattle.dl_model.specs.Ways.{ways}
pub use Rattle.dl_plan.proofs.Apart.{kept_le}
pub use Rattle.dl_plan.proofs.Clauses.{bucket_pos, kept_is, layer_le, num_le_den}
pub use Rattle.dl_plan.proofs.Means.{positive_share, total_pos, weight_at-le}
pub use Rattle.dl_plan.proofs.Shared.{has_factor}
pub use Rattle.dl_plan.proofs.Shares.{filter-shares, items_over, mean-shares, probability-conditioned}
pub use Rattle.dl_plan.proofs.Weights.{weight_sum_pos}
pub use Rattle.dl_plan.specs.Clause.{Clause, IsClause, ceded, kept, layer}
pub use Rattle.dl_plan.specs.Common.{CanShare, HasCommonFactor, IsPoisson, expected_of, raised}
pub use Rattle.dl_plan.specs.Count.{IsClaimCount as IsCountOfPlan, IsUnbounded, expected_count}
pub use Rattle.dl_plan.specs.Fine.{IsWhole}
pub use Rattle.dl_plan.specs.Means.{declared_mean, thinned_mean}
pub use Rattle.dl_plan.specs.Parts.{kept_parts, parts_in_bucket}
pub use Rattle.dl_plan.specs.Severity.{HasDistribution, Pairs, conditioned, mass, mean_amount, pairs_of, probability, probability_of, shares}
pub use Rattle.dl_plan.specs.Valid.{IsAggregate, IsNewZero, IsValid, IsValidUnit}
pub use Rattle.dl_plan.specs.Weighted.{IsWeighted, common_amount, greatest, weight_at, weight_sum, weighted_sum}
pub use Rattle.dl_plan.specs.declared.cede.CedeLayer.{CedeLayer}
pub use Rattle.dl_plan.specs.declared.item.Item.{Item}
pub use Rattle.dl_plan.specs.declared.plan.Freq.{Freq}
pub use Rattle.dl_plan.specs.declared.plan.Freq.TheVariants.{Bernoulli, Binomial, Fixed, Gamma, Poisson, Table}
pub use Rattle.dl_plan.specs.declared.plan.Plan.{Plan}
pub use Rattle.dl_plan.specs.declared.plan.Unit.{Unit as UnitOfPlan}
pub use Rattle.dl_plan.specs.declared.severity.Sev.{Sev}
pub use Rattle.std.proofs.Common.{Bool, List, Option, [], add-one, add-zero, ap, ap₂, arith, div-mul-le_self, drop, eq-eqb, false, fold, inl, inr, le-mul_of_pos_right, length, map, max, min, mul-le-mul, mul-le-mul_right, mul-pos, nat_eq, nat_le, nat_lt, ne_eqb, pow-suc, refl, subst, subst₂, suc, suc-add, sym, take, true, zero, zero-add, ℕ, ◌*◌, ◌++◌, ◌+◌, ◌-◌, ◌/◌, ◌<◌, ◌^◌, ◌↔◌, ◌∙◌, ◌∷◌, ◌≡◌, ◌≢◌, ◌≤◌, ◌⊎◌}
pub use Rattle.std.proofs.Math.Decide.{dec_dvd}
pub use Rattle.std.proofs.Math.Nat.{div-add-mod, div-le_of_le-mul, div-one, dvd-add_iff_right, dvd-mul_left, eq-zero-or-pos, eq_of_mul-eq-mul_left, le-max_left, le-max_right, le_refl as le_refl_n, lt_of_mul-lt-mul_left, min-eq_left, min-eq_right, one-le-pow, pow-succ', pow-zero, zero-lt-suc}
pub use Rattle.std.proofs.lemmas.Bool.{cases_eq, cases_lt, le-leb, le-ltb, lt-leb, lt-ltb}
pub use Rattle.std.proofs.lemmas.Bool.Decides.{eqb_tells, nat_tests}
pub use Rattle.std.proofs.lemmas.Grind.{div_ceil_times}
pub use Rattle.std.proofs.lemmas.List.{length-map}
pub use Rattle.std.proofs.lemmas.List.Elements.{All-cons, All-filter, All-head, All-nil, All-tail}
pub use Rattle.std.proofs.lemmas.List.Sums.{sum_by-cons}
pub use Rattle.std.proofs.lemmas.Nat.{mul-pow, pow_pos}
pub use Rattle.std.proofs.lemmas.Nat.Gcd.{dvd-zero, dvd_refl, dvd_trans, le_of_dvd, mod-eq-zero_of_dvd}
pub use Rattle.std.proofs.lemmas.Option.{none-some}
pub use Rattle.std.specs.Int.{div_ceil, sum_through}
pub use Rattle.std.specs.Prelude.{All, IfSome, None, Some, count_by, get_or, if◌then◌else◌, sum, sum_by, ◌==◌}
pub use Prim.Native.Nat.{◌∣◌}
pub use mathlib.Core.Path.{fun_ext}
pub use native.Mathlib.Decide.{le_ind}

pub ruleset order = (le_refl, le_trans, plus_le_both, times_le_both)
