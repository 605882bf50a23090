-- The names that the proofs of this crate cite most, passed on from one place. Declares nothing.
pub use Rattle.dl_exact.proofs.Denominators.{over_plus, over_zero}
pub use Rattle.dl_exact.proofs.Laws.{plus_assoc, times_one, times_plus, times_zero, zero_plus}
pub use Rattle.dl_exact.proofs.Over.{le_over, lt_over, over_div, over_le, over_lt, over_mul, over_same, over_self, over_sub, same}
pub use Rattle.dl_exact.proofs.Parts.{num_pos, quotient_is, whole_den, whole_num}
pub use Rattle.dl_exact.proofs.RoundingLaws.{floor_div, floor_one}
pub use Rattle.dl_exact.specs.Fraction.{Fraction, whole}
unfoldable pub use Rattle.dl_exact.specs.Fraction.{◌*ℚ◌, ◌+ℚ◌, ◌<ℚ◌, ◌over◌}
unfoldable pub use Rattle.dl_exact.specs.Sum.{sum_over}
pub use Rattle.dl_frac.specs.Exact.{FitsFrac, IsTooFine}
pub use Rattle.dl_limits.specs.Limits.{frac_bound, most_amount, most_range_parts, most_weights}
pub use Rattle.dl_plan.proofs.Apart.{kept_none}
pub use Rattle.dl_plan.proofs.Clauses.{kept_only, kept_whole, num_le_den, whole_if, whole_only}
pub use Rattle.dl_plan.proofs.CommonDenominators.{common_pos, den_divides}
pub use Rattle.dl_plan.proofs.Fits.{given_ok, given_value, over_fits}
pub use Rattle.dl_plan.proofs.Means.{severity_total}
pub use Rattle.dl_plan.proofs.Shares.{mean-shares, probability-shares}
pub use Rattle.dl_plan.proofs.Straight.{IsClear, IsOutside, kept_straight}
pub use Rattle.dl_plan.specs.Clause.{Clause, kept, layer}
pub use Rattle.dl_plan.specs.Fine.{IsWhole, numerator_over}
pub use Rattle.dl_plan.specs.Prelude.{IsClause, edge, kept_parts, parts_in_bucket}
pub use Rattle.dl_plan.specs.Severity.{Pairs, pairs_of, probability, probability_of, shares}
pub use Rattle.dl_plan.specs.Weighted.{amounts_of, weight_at, weight_sum, weighted_sum}
pub use Rattle.dl_plan.specs.declared.cede.CedeLayer.{CedeLayer}
pub use Rattle.dl_plan.specs.declared.item.Item.{Item}
pub use Rattle.dl_plan.specs.declared.severity.Sev.{Sev}
pub use Rattle.dl_severity.specs.Buckets.{buckets}
pub use Rattle.dl_severity.specs.Fits.{FitsAfter, FitsLayer, FitsStep}
pub use Rattle.dl_severity.specs.Ranges.{IsRange, PassesRoom, RefusesRanges, floor_of, list_values, range_denominator, range_values, steps_in, value_at}
pub use Rattle.dl_severity.specs.Refusals.{RefusesMixture, RefusesProducts}
pub use Rattle.dl_severity.specs.Steps.{items_of, mixed_probability, mixture_of, scaled, weighed, with_amount, with_amounts, with_weighed}
pub use Rattle.dl_severity.specs.Weighing.{sum_of}
pub use Rattle.dl_severity.specs.declared.fault.ExpandFault.{ExpandFault}
pub use Rattle.dl_severity.specs.declared.fault.MixFault.{MixFault}
pub use Rattle.dl_severity.specs.declared.range.Range.{Range}
pub use Rattle.dl_severity.specs.declared.weights.Weights.{Weights}
pub use Rattle.std.proofs.Common.{Bool, Err, IfOk, IsPermutation, IsTrue, List, None, Ok, Option, Result, Some, [], ap, append_assoc, ap₂, arith, cond, drop, false, get_or, inl, inr, le_of_mul-le-mul_right, length, length-append, lt_trans, map, mul-le-mul, mul-le-mul_right, mul-pos, mul_comm, nat_eq, refl, rules, subst, suc, sum, sym, take, true, zero, zip, ℕ, ◌%◌, ◌&&◌, ◌*◌, ◌++◌, ◌+◌, ◌-◌, ◌/◌, ◌<◌, ◌==◌, ◌^◌, ◌↔◌, ◌∙◌, ◌∷◌, ◌≡◌, ◌≢◌, ◌≤◌, ◌⊎◌}
pub use Rattle.std.proofs.Math.Nat.{div-le_self, div-mul-le_self, dvd-add, dvd-sub, lt_of_mul-lt-mul_right, mul-sub}
pub use Rattle.std.proofs.lemmas.Bool.{cases_lt, le-ltb, lt-ltb}
pub use Rattle.std.proofs.lemmas.Grind.{div_ceil_times, flat_map-append}
pub use Rattle.std.proofs.lemmas.List.{append-nil, get_or-append-add, get_or-map, get_or_append_left, get_or_default, length-map, length-take-le, map-append, map_more, take-append-drop, take_all, take_more}
pub use Rattle.std.proofs.lemmas.List.Elements.{All-cons, All-head, All-nil, All-push, All-tail}
pub use Rattle.std.proofs.lemmas.List.FromFn.{length-map-range_with_len, map-range_with_len_more}
pub use Rattle.std.proofs.lemmas.List.Kept.{AllPairs-from_increasing}
pub use Rattle.std.proofs.lemmas.List.Quantifiers.{all_pairs_push}
pub use Rattle.std.proofs.lemmas.List.Sorted.{IsNonDecreasingBy-from_sort_by_key, sum_by-IsPermutation}
pub use Rattle.std.proofs.lemmas.List.Sums.{sum_by-cons, sum_by_more, sum_by_more_le, sum_by_push}
pub use Rattle.std.proofs.lemmas.Nat.Gcd.{dvd_of_mod-eq-zero, le_of_dvd, mod-eq-zero_of_dvd}
pub use Rattle.std.proofs.lemmas.Simd.{map-map}
pub use Rattle.std.specs.Int.{div_ceil}
pub use Rattle.std.specs.List.{All, AllPairs, range_with_len, sum_by}
pub use Rattle.std.specs.List.Sorted.{IsNonDecreasingBy, IsStrictlyIncreasing}
pub use Rattle.std.specs.Option.{IsSome, MatchOption, is_some}
pub use Prim.Native.Nat.{◌∣◌}
