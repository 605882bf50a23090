-- The names that the proofs of this crate cite most, passed on from one place. Declares nothing.
pub use Rattle.dl_exact.proofs.Denominators.{over_plus, over_times, over_zero, same_num}
pub use Rattle.dl_exact.proofs.GcdLaws.{cut_right, gcd-scale, gcd_is}
pub use Rattle.dl_exact.proofs.Laws.{le_of_eq, one_pos, times_le_both, whole_pos, whole_times}
pub use Rattle.dl_exact.proofs.Multiples.{lcm_gcd, lcm_left, lcm_right}
pub use Rattle.dl_exact.proofs.Over.{le_over, over_add, over_den, over_div, over_le, over_mul, over_same, over_self, over_sub, pos_of_mul}
pub use Rattle.dl_exact.proofs.Parts.{over_den_le, over_num_le, whole_den, whole_num}
pub use Rattle.dl_exact.proofs.RoundingLaws.{div_ceil_least, up_least, whole_le}
pub use Rattle.dl_exact.proofs.Sums.{sum_over_map, sum_over_same}
pub use Rattle.dl_exact.proofs.SumsOver.{if_over, sum_over_common}
pub use Rattle.dl_exact.specs.Fraction.{Fraction, whole, ◌/ℚ◌}
unfoldable pub use Rattle.dl_exact.specs.Fraction.{◌*ℚ◌, ◌-ℚ◌, ◌over◌, ◌≤ℚ◌}
unfoldable pub use Rattle.dl_exact.specs.Gcd.{euclid, gcd}
pub use Rattle.dl_exact.specs.Multiples.{lcm}
pub use Rattle.dl_exact.specs.Rounding.{up}
pub use Rattle.dl_frac.specs.Exact.{FitsFrac, Gives}
pub use Rattle.dl_limits.proofs.Scales.{amount_fits, standard_total}
pub use Rattle.dl_limits.specs.Limits.{most_amount, most_amount_at, most_expected, most_total_at, standard_units}
pub use Rattle.dl_plan.specs.Clause.{Clause, IsBelowTop, IsClause, Overlap, ceded, kept, layer, layer_shares}
pub use Rattle.dl_plan.specs.Common.{CanShare, HasCommonFactor, IsGamma, IsPoisson, can_share, is_poisson, raised}
pub use Rattle.dl_plan.specs.Count.{IsClaimCount, IsUnbounded, expected_count}
pub use Rattle.dl_plan.specs.Fine.{HasPartsOf48Bits, IsWhole, common_denominator, numerator_over}
pub use Rattle.dl_plan.specs.Horizon.{IsFirstSettled, IsHorizon, IsHorizonOf, IsSettled, buckets_behind, edge, edge_of, last_edge}
unfoldable pub use Rattle.dl_plan.specs.Horizon.{horizon}
pub use Rattle.dl_plan.specs.Means.{declared_mean}
pub use Rattle.dl_plan.specs.Parts.{kept_parts, layer_parts, parts_in_bucket}
pub use Rattle.dl_plan.specs.Plain.{IsPlainByte}
pub use Rattle.dl_plan.specs.Ranges.{IsBucket, IsLevel}
pub use Rattle.dl_plan.specs.Severity.{Pairs, conditioned, mass, mean_amount, pairs_of, probability, probability_of, shares}
pub use Rattle.dl_plan.specs.Shared.{SharesFactor}
pub use Rattle.dl_plan.specs.Size.{AreFew, changed_units, growth, whole_mean, whole_means}
pub use Rattle.dl_plan.specs.Valid.{IsAggregate, IsNewZero, IsValid, IsValidUnit, claims_alone}
pub use Rattle.dl_plan.specs.Weighted.{IsWeighted, amounts_of, common_weight, divided_by, greatest, weight_at, weight_sum, weighted_sum}
pub use Rattle.dl_plan.specs.declared.cede.CedeLayer.{CedeLayer}
pub use Rattle.dl_plan.specs.declared.item.Item.{Item}
pub use Rattle.dl_plan.specs.declared.plan.Freq.{Freq}
pub use Rattle.dl_plan.specs.declared.plan.Freq.TheVariants.{Bernoulli, Binomial, Fixed, Gamma, Poisson, Table}
pub use Rattle.dl_plan.specs.declared.plan.Plan.{Plan}
pub use Rattle.dl_plan.specs.declared.settings.Term.{Term}
pub use Rattle.dl_plan.specs.declared.severity.Sev.{Sev}
pub use Rattle.std.proofs.Common.{Err, IsOk, IsTrue, List, None, Ok, Option, Result, Some, [], ap, ap₂, arith, cond, drop, false, fold, get_or, inl, inr, length, map, max, mul-le-mul_right, mul-pos, nat_le, nat_lt, refl, subst, suc, sym, take, true, zero, ℕ, ◌%◌, ◌*◌, ◌++◌, ◌+◌, ◌-◌, ◌/◌, ◌<◌, ◌==◌, ◌^◌, ◌∙◌, ◌∷◌, ◌≡◌, ◌≤◌, ◌⊎◌}
pub use Rattle.std.proofs.Math.Nat.{div-add-mod, div-le_self, div-mul-le_self, div-mul_cancel, eq-zero-or-pos, eq_of_mul-eq-mul_right, le-max_left, le-max_right, max-eq_left, mul-div_cancel, mul-le-mul, mul-le-mul_left, pos_of_dvd_of_pos}
pub use Rattle.std.proofs.lemmas.Bool.{cases_lt, eq-eqb, le-ltb, leb-true, lt-ltb}
pub use Rattle.std.proofs.lemmas.Bool.Decides.{eqb_tells, nat_tests}
pub use Rattle.std.proofs.lemmas.Grind.{common_steps, div_ceil_times}
pub use Rattle.std.proofs.lemmas.List.{get_or-map, get_or_default, length-map, map_more, take-append-drop, take_all}
pub use Rattle.std.proofs.lemmas.List.Edits.{map_over_more}
pub use Rattle.std.proofs.lemmas.List.Elements.{All-cons, All-filter, All-head, All-nil, All-tail, filter_more}
pub use Rattle.std.proofs.lemmas.List.Filters.{sum_by-filter_both}
pub use Rattle.std.proofs.lemmas.List.Kept.{AllPairs-cons, AllPairs-from_increasing, IsStrictlyIncreasing-filter}
pub use Rattle.std.proofs.lemmas.List.Sums.{count_by-le-length, fold-append, fold_more, get_or-le-sum_by, sum_by-cons, sum_by-le, sum_by-take-le, sum_by_more}
pub use Rattle.std.proofs.lemmas.Nat.Gcd.{dvd_refl, dvd_trans, le_of_dvd, mod-eq-zero_of_dvd}
pub use Rattle.std.proofs.lemmas.Simd.{map-map}
pub use Rattle.std.specs.Int.{div_ceil}
pub use Rattle.std.specs.List.{All, AllPairs, sum_by}
pub use Rattle.std.specs.List.Sorted.{IsStrictlyIncreasing}
pub use Rattle.std.specs.Prelude.{IfSome, is_some}
pub use Prim.Native.Nat.{◌∣◌}
