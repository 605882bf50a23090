-- The names that the proofs of this crate cite most, passed on from one place. Declares nothing.
pub use Rattle.dl_exact.proofs.BelowOne.{num_below}
pub use Rattle.dl_exact.proofs.Counts.{below_first, below_le, below_more as count_below_more, below_nothing as count_below_none, below_plus, below_rest, below_same}
pub use Rattle.dl_exact.proofs.Denominators.{over_le_over, over_minus, over_one, over_pos, over_zero}
pub use Rattle.dl_exact.proofs.Laws.{le_of_eq, le_of_lt, le_plus, le_refl, lt_or_le, one_times, plus_zero, ring, sub_le_both, times_assoc, times_comm, times_le_both, times_le_times, times_zero, whole_times}
pub use Rattle.dl_exact.proofs.Over.{le_over, over_div, over_lt}
pub use Rattle.dl_exact.proofs.Parts.{whole_den, whole_num}
pub use Rattle.dl_exact.proofs.Results.{if_ok_three, if_ok_two}
pub use Rattle.dl_exact.proofs.RoundingLaws.{ceiling_div, div_ceil_least, floor_div, part_within, whole_le}
pub use Rattle.dl_exact.proofs.Sums.{sum_to_le, sum_to_same}
pub use Rattle.dl_exact.proofs.SumsOver.{to_over}
unfoldable pub use Rattle.dl_exact.specs.Count.{count_below}
pub use Rattle.dl_exact.specs.Prelude.{◌+ℚ◌, ◌/ℚ◌, ◌<ℚ◌}
pub use Rattle.dl_exact.specs.Sum.{sum_to}
pub use Rattle.dl_grid.proofs.CellLaws.{size_of}
pub use Rattle.dl_grid.proofs.CellSets.{at_zero_small, high_set, low_in_mass, low_set, mass_set, spread_set}
pub use Rattle.dl_grid.proofs.EndLists.{high_at_ends, low_at_ends, low_ends_long, low_le_high}
pub use Rattle.dl_grid.proofs.PlaceSums.{high_is, width_within}
pub use Rattle.dl_grid.specs.Cells.{AreEnds, high_ends, low_ends, mass_low}
unfoldable pub use Rattle.dl_grid.specs.Cells.{all_at_zero}
pub use Rattle.dl_iv.proofs.Enclosures.{lies_between}
pub use Rattle.dl_iv.proofs.Operations.{add_high, add_low, div_high, div_low, enclose_high, enclose_low, scale_high, scale_low}
pub use Rattle.dl_iv.proofs.Rounding.{floor_le_ceiling}
pub use Rattle.dl_iv.specs.Enclosure.{LiesIn}
pub use Rattle.dl_limits.proofs.Scales.{amount_fits}
pub use Rattle.dl_limits.specs.Limits.{most_amount, most_amount_at}
pub use Rattle.dl_measures.proofs.Common.{AreDeclared, Encloses, Fraction, GridEncloses, Holds, IsBound, IsGrid, Iv, Layer, List, Loss, Mean, One, add-one, ap, ap₂, arith, at_least_wider, at_most_wider, cases_lt, div_ceil, fun_ext, get_or, high_at, inl, inr, layer_width, le_trans, length, low_at, min, mul-le-mul, mul-le-mul_left, mul-le-mul_right, one_fits, one_pos, over_le, over_mul, over_same, over_self, partial_sums, pow_pos, refl, scale_of, spread, sub_plus, subst, subst₂, suc, sym, take, total, whole, zero, zero_le, zero_times, ℕ, ◌*ℚ◌, ◌*◌, ◌+◌, ◌-ℚ◌, ◌-◌, ◌/◌, ◌<◌, ◌^◌, ◌over◌, ◌∙◌, ◌≡◌, ◌≤ℚ◌, ◌≤◌}
pub use Rattle.dl_measures.proofs.Sums.{high_end, high_most, low_most}
pub use Rattle.dl_measures.proofs.TailLaws.{quotients_apart}
pub use Rattle.dl_measures.specs.Layers.{layer_most}
pub use Rattle.dl_model.proofs.Alike.{ends_in_order, level_same, not_both, same_value}
pub use Rattle.dl_model.proofs.ChangedLoss.{changed_mean_values, changed_values, unit_changed_lows}
pub use Rattle.dl_model.proofs.ChangedZero.{sub_zero, with_none_all, with_none_rises}
pub use Rattle.dl_model.proofs.ClauseMeans.{alone_ceded, are_claims, both_ceded, ceded_mean, claims_enclosed, claims_mean, net_mean, no_clause, none_ceded}
pub use Rattle.dl_model.proofs.Clauses.{clause_few, clause_rest, where_none}
pub use Rattle.dl_model.proofs.FamilyLaws.{cell_at_most_one, sum_rises_to}
pub use Rattle.dl_model.proofs.Multiples.{clause_whole, no_cell_between}
pub use Rattle.dl_model.proofs.Outcomes.{loss_proper, mean_alone, total_alone_all}
pub use Rattle.dl_model.proofs.Picks.{off, on}
pub use Rattle.dl_model.proofs.PlanUnits.{unit_declared}
pub use Rattle.dl_model.proofs.TailScores.{div_is_times}
pub use Rattle.dl_model.proofs.UnitLaws.{unit_loss, unit_within}
pub use Rattle.dl_model.specs.ChangedZero.{changed, changed_end, with_claims, without_none}
pub use Rattle.dl_model.specs.Compound.{cell}
pub use Rattle.dl_model.specs.Measures.{IsDeclaredLoss, level_mean}
pub use Rattle.dl_model.specs.Prelude.{Series, aggregate_of, claims_of, compound, compound_of, count_weights, outcome_after, where_true}
pub use Rattle.dl_model.specs.Program.{IsLoss}
pub use Rattle.dl_model.specs.Series.{AtLeast, AtMost, Rises, SameValue}
pub use Rattle.dl_model.specs.Units.{Aggregate, IsDeclarable, IsDeclared, loss, mapped, outcome}
pub use Rattle.dl_outcomes.specs.Before.{HoldsMean, HoldsNone, IsBefore}
unfoldable pub use Rattle.dl_outcomes.specs.Ends.{high_changed, low_changed}
pub use Rattle.dl_outcomes.specs.Ends.{AreChangedEnds, HasRoomForNone}
pub use Rattle.dl_outcomes.specs.Means.{AreNearestEnds, HoldsCeded, HoldsClaims, HoldsKept, IsNear, most_claims_mean, most_limited}
unfoldable pub use Rattle.dl_outcomes.specs.TakenIn.{where_whole}
pub use Rattle.dl_outcomes.specs.TakenIn.{IsLeft, IsTakenIn, sum_elsewhere, sum_kept, width_at}
pub use Rattle.dl_plan.proofs.Apart.{first_apart, kept_rises, rest_apart}
pub use Rattle.dl_plan.proofs.Clauses.{bucket_pos, kept_is, num_le_den}
pub use Rattle.dl_plan.proofs.CommonDenominators.{common_pos, den_divides}
pub use Rattle.dl_plan.proofs.Horizons.{horizon_edges, horizon_one, horizon_settled}
pub use Rattle.dl_plan.proofs.Means.{positive_share, total_pos}
pub use Rattle.dl_plan.specs.Clause.{Clause, IsBelowTop, IsClause, Overlap, kept, layer_shares}
pub use Rattle.dl_plan.specs.Count.{IsClaimCount, IsUnbounded, expected_count}
pub use Rattle.dl_plan.specs.Horizon.{IsHorizonOf, IsSettled, edge}
pub use Rattle.dl_plan.specs.Parts.{kept_parts, parts_in_bucket}
pub use Rattle.dl_plan.specs.Prelude.{IsFineTo30Bits, IsWeighted, IsWhole, common_amount, common_denominator, declared_mean, greatest, mean_amount, mean_width, pairs_of, part_width, probability_of, weight_at, weight_sum, weighted_sum}
pub use Rattle.dl_plan.specs.Valid.{IsAggregate, IsValidUnit, IsWithinMostAmount}
pub use Rattle.dl_plan.specs.declared.cede.CedeLayer.{CedeLayer}
pub use Rattle.dl_plan.specs.declared.item.Item.{Item}
pub use Rattle.dl_plan.specs.declared.plan.Freq.{Freq}
pub use Rattle.dl_plan.specs.declared.plan.Freq.TheVariants.{Bernoulli, Binomial, Fixed, Gamma, Poisson, Table}
pub use Rattle.dl_plan.specs.declared.plan.Unit.{Unit as UnitOfPlan}
pub use Rattle.dl_plan.specs.declared.severity.Sev.{Sev}
pub use Rattle.std.proofs.Common.{Bool, None, Option, Some, [], below_more, cond, eq-eqb, false, nat_eq, ne_eqb, rules, set, true, ◌++◌, ◌∷◌, ◌≢◌, ◌⊎◌}
pub use Rattle.std.proofs.Math.ListN.{get_or-eq_default}
pub use Rattle.std.proofs.Math.Nat.{add-sub_of_le, div-le_of_le-mul, div-mul-le_self, div-one, eq-zero-or-pos, le-div_iff_mul-le, le_of_mul-le-mul_right, le_refl as le_refl_n, le_trans as le_trans_n, lt-div-mul-add, mul-div_cancel, mul-mod_left, mul-pos, sub-add_cancel}
pub use Rattle.std.proofs.Math.Seq.{get_or-append_seam}
pub use Rattle.std.proofs.lemmas.Bool.{le-ltb, lt-ltb}
pub use Rattle.std.proofs.lemmas.Bool.Decides.{eqb_tells, leb_tells}
pub use Rattle.std.proofs.lemmas.Grind.{div_ceil_times, get_or_default_zero}
pub use Rattle.std.proofs.lemmas.List.{get_or-map, get_or_append_left, length-append, length-map, length-set, take_all, take_more}
pub use Rattle.std.proofs.lemmas.List.Elements.{All-head, All-tail}
pub use Rattle.std.proofs.lemmas.List.Sums.{sum_by-cons, sum_by-le, sum_by-take-le, sum_by_more}
pub use Rattle.std.proofs.lemmas.Nat.{mod-mul-add}
pub use Rattle.std.proofs.lemmas.Nat.Gcd.{le_of_dvd}
pub use Rattle.std.proofs.lemmas.Option.{IfSome_then}
pub use Rattle.std.specs.List.{sum_by}
pub use Rattle.std.specs.Option.{option_copied}
pub use Rattle.std.specs.Prelude.{All, AllPairs, IfSome, if◌then◌else◌, nat_lt, sum, ◌==◌, ◌↔◌}
