-- The names that the proofs of this crate cite most, passed on from one place. Declares nothing.
pub use Rattle.dl_exact.proofs.Denominators.{over_zero, same_num}
pub use Rattle.dl_exact.proofs.Laws.{div_le_both, div_times, le_div, le_plus, le_refl, le_trans, one_pos, one_times, plus_cancel, plus_comm, plus_zero, ring, sub_plus, times_cancel, times_comm, times_le_both, times_le_cancel, times_one, times_plus, times_zero, whole_pos}
pub use Rattle.dl_exact.proofs.Over.{le_over, over_le, over_self}
pub use Rattle.dl_exact.proofs.Parts.{over_den_le, over_num_le}
pub use Rattle.dl_exact.proofs.RoundingLaws.{whole_le}
pub use Rattle.dl_exact.proofs.Sums.{sum_over_append, sum_over_map, sum_over_same, sum_over_times}
pub use Rattle.dl_exact.specs.Fraction.{Fraction, whole, ◌*ℚ◌, ◌+ℚ◌, ◌-ℚ◌, ◌/ℚ◌, ◌<ℚ◌, ◌over◌, ◌≤ℚ◌}
unfoldable pub use Rattle.dl_exact.specs.Sum.{sum_over}
pub use Rattle.dl_frac.specs.Exact.{FitsFrac, Gives}
pub use Rattle.dl_limits.specs.Limits.{most_amount_at, most_beta, most_expected, most_shape}
pub use Rattle.dl_model.proofs.CommonPlans.{are_severities, declared_is, expected_units, pooled_over}
pub use Rattle.dl_model.proofs.ItemWeights.{shares_severity}
pub use Rattle.dl_model.proofs.PoissonTotals.{part_back}
pub use Rattle.dl_model.proofs.PooledLoss.{as_one_loss}
pub use Rattle.dl_model.specs.CommonFactor.{CountsTotal, PoissonUnit, common_sums, expected_claims, pooled_severity, pooled_unit}
pub use Rattle.dl_model.specs.CommonUnits.{poisson_unit, poisson_units}
pub use Rattle.dl_model.specs.Counts.{gamma_of, poisson}
pub use Rattle.dl_model.specs.Plans.{after_zero, aggregate_of, count_weights, declared, outcome_after}
pub use Rattle.dl_model.specs.Program.{Quantity, partial_sums}
pub use Rattle.dl_model.specs.Units.{loss, plain}
pub use Rattle.dl_plan.proofs.Clauses.{num_le_den}
pub use Rattle.dl_plan.proofs.CommonDenominators.{common_pos, den_divides}
pub use Rattle.dl_plan.proofs.Few.{standard_few}
pub use Rattle.dl_plan.proofs.Fits.{given_ok, given_value}
pub use Rattle.dl_plan.proofs.MeanSizes.{standard_means}
pub use Rattle.dl_plan.proofs.Means.{admitted_fits, severity_total, weight_at-le}
pub use Rattle.dl_plan.proofs.Shared.{has_factor, shares_true, true_shares}
pub use Rattle.dl_plan.proofs.Shares.{probability-shares}
pub use Rattle.dl_plan.specs.Common.{CanShare, IsGamma, IsPoisson, can_share, expected_of, raised, shared_probabilities, thinned_of, unit_share}
pub use Rattle.dl_plan.specs.Count.{IsClaimCount, IsGammaCount, IsShape, IsThinnedGamma, IsThinnedTo, IsUnbounded, expected_count}
pub use Rattle.dl_plan.specs.Fine.{HasPartsOf48Bits, IsFineTo30Bits, IsFineTo40Bits, common_denominator}
pub use Rattle.dl_plan.specs.Means.{thinned_mean}
pub use Rattle.dl_plan.specs.Severity.{Pairs, pairs_of, probability, probability_of, shares}
pub use Rattle.dl_plan.specs.Shared.{SharesFactor}
pub use Rattle.dl_plan.specs.Valid.{IsAggregate, IsNewZero, IsValid, IsValidUnit}
pub use Rattle.dl_plan.specs.Weighted.{greatest, weight_at}
pub use Rattle.dl_plan.specs.declared.item.Item.{Item}
pub use Rattle.dl_plan.specs.declared.plan.Freq.{Freq}
pub use Rattle.dl_plan.specs.declared.plan.Freq.TheVariants.{Bernoulli, Binomial, Fixed, Gamma, Poisson, Table}
pub use Rattle.dl_plan.specs.declared.plan.Plan.{Plan}
pub use Rattle.dl_plan.specs.declared.plan.Unit.{Unit as UnitOfPlan}
pub use Rattle.dl_plan.specs.declared.severity.Sev.{Sev}
pub use Rattle.dl_pool.specs.Extra.{extra_count}
pub use Rattle.dl_pool.specs.Pooled.{IsMixedOf, IsPooled, IsRaised, alone, lent}
pub use Rattle.dl_severity.specs.Prelude.{IsWeighing}
pub use Rattle.dl_severity.specs.Steps.{mixture_of, scaled}
pub use Rattle.dl_severity.specs.Weighing.{sum_of}
pub use Rattle.std.proofs.Common.{Bool, List, None, Option, Some, [], ap, ap₂, arith, cond, false, get_or, inl, inr, length, map, refl, subst, subst₂, suc, sym, take, true, zero, ℕ, ◌*◌, ◌++◌, ◌+◌, ◌<◌, ◌==◌, ◌∙◌, ◌∷◌, ◌≡◌, ◌≤◌}
pub use Rattle.std.proofs.lemmas.Bool.{cases_lt, eq-eqb, le-leb, leb-true, ne_eqb}
pub use Rattle.std.proofs.lemmas.List.{get_or-map, get_or_default, length-map, map-append, map_more, take_all, take_more}
pub use Rattle.std.proofs.lemmas.List.Elements.{All-cons, All-head, All-nil, All-tail}
pub use Rattle.std.proofs.lemmas.List.Sums.{get_or-le-sum_by, sum_by-cons}
pub use Rattle.std.proofs.lemmas.Nat.Gcd.{le_of_dvd}
pub use Rattle.std.specs.Borrow.{Bor}
pub use Rattle.std.specs.List.{All, flat_map}
pub use Rattle.std.specs.Prelude.{IfSome}
pub use mathlib.Core.Path.{fun_ext}
