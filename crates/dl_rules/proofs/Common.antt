-- The names that the proofs of this crate cite most, passed on from one place. Declares nothing.
pub use Rattle.dl_ast.specs.WellFormed.{IsFormedBody, IsFormedDefinition, IsFormedHead, IsFormedMixture, IsFormedUnit, IsWellFormed}
pub use Rattle.dl_ast.specs.declared.ast.Cession.{Cession}
pub use Rattle.dl_ast.specs.declared.ast.CountAst.{CountAst}
pub use Rattle.dl_ast.specs.declared.ast.MixAst.{MixAst}
pub use Rattle.dl_ast.specs.declared.ast.Numeral.{Numeral}
pub use Rattle.dl_ast.specs.declared.ast.PortHead.{PortHead}
pub use Rattle.dl_ast.specs.declared.ast.Program.{Program}
pub use Rattle.dl_ast.specs.declared.ast.SevBody.{SevBody}
pub use Rattle.dl_ast.specs.declared.ast.SevBody.TheVariants.{Mixture, Ref}
pub use Rattle.dl_ast.specs.declared.ast.SevDef.{SevDef}
pub use Rattle.dl_ast.specs.declared.ast.UnitAst.{UnitAst}
pub use Rattle.dl_ast.specs.declared.ast.ZeroAst.TheVariants.{Modified, Plain, Truncated}
pub use Rattle.dl_exact.proofs.Denominators.{over_zero, over_zero as zero_over}
pub use Rattle.dl_exact.proofs.GcdLaws.{gcd_is}
pub use Rattle.dl_exact.proofs.Laws.{div_pos, div_times, le_of_eq, le_plus, le_refl, le_trans, lt_not_le, lt_of_lt_of_le, one_pos, one_times, plus_assoc, plus_comm, plus_zero, ring, times_cancel, times_comm, times_le_both, times_le_cancel, times_pos, whole_pos, zero_plus, zero_times}
pub use Rattle.dl_exact.proofs.Multiples.{lcm_right, lowest_parts, lowest_product, lowest_swap, lowest_times, part_divides}
pub use Rattle.dl_exact.proofs.Over.{le_over, lt_over, over_den as den_of_over, over_div, over_le, over_lt, over_mul, over_num as num_of_over, over_same, over_self, same}
pub use Rattle.dl_exact.proofs.Parts.{lowest_den, lowest_num, lowest_self, num_pos, over_den_le as den_of_over-le, over_num_le as num_of_over-le, pos_num, product_is, quotient_is, sum_is, whole_den, whole_num}
pub use Rattle.dl_exact.proofs.RoundingLaws.{ceiling_div, ceiling_one, div_ceil_least, up_above, up_least}
pub use Rattle.dl_exact.proofs.Sums.{sum_over_map}
pub use Rattle.dl_exact.specs.Fraction.{Fraction, whole, ◌+ℚ◌, ◌-ℚ◌}
unfoldable pub use Rattle.dl_exact.specs.Fraction.{◌*ℚ◌, ◌/ℚ◌, ◌<ℚ◌, ◌over◌, ◌≤ℚ◌}
unfoldable pub use Rattle.dl_exact.specs.Gcd.{gcd}
pub use Rattle.dl_exact.specs.Multiples.{lcm}
pub use Rattle.dl_exact.specs.Prelude.{IsCeiling, up}
unfoldable pub use Rattle.dl_exact.specs.Sum.{sum_over}
pub use Rattle.dl_frac.specs.Exact.{FitsFrac, Gives, IsTooFine}
pub use Rattle.dl_lexer.specs.Prelude.{IsNumeral}
pub use Rattle.dl_lexer.specs.declared.token.Span.{Span}
pub use Rattle.dl_limits.proofs.RuleBounds.{bounds_within, standard_within}
pub use Rattle.dl_limits.proofs.Scales.{amount_fits}
pub use Rattle.dl_limits.specs.Limits.{admitted_bound, frac_bound, mean_num_bound, most_amount, most_amount_at, most_beta, most_changed, most_claims, most_count, most_expected, most_growth, most_horizon, most_parts, most_shape, most_total_at, most_units, most_weights, rarest_claims, standard_units}
pub use Rattle.dl_limits.specs.Rules.{AreBounds, AreWithin, bounds_of}
pub use Rattle.dl_limits.specs.declared.rules.Bounds.{Bounds}
pub use Rattle.dl_limits.specs.declared.rules.Rules.{Rules}
pub use Rattle.dl_limits.specs.declared.rules.Rules.TheVariants.{Extended, Standard}
pub use Rattle.dl_plan.proofs.CommonDenominators.{common_from_divides, common_from_pos, den_divides, lcm_pos}
pub use Rattle.dl_plan.proofs.Few.{standard_few}
pub use Rattle.dl_plan.proofs.Fits.{given_ok, given_value, over_fits}
pub use Rattle.dl_plan.proofs.Horizons.{horizon_is, same_horizon}
pub use Rattle.dl_plan.proofs.MeanSizes.{standard_means}
pub use Rattle.dl_plan.proofs.Means.{severity_total, severity_total as total_pos}
pub use Rattle.dl_plan.proofs.Shares.{mean-shares}
pub use Rattle.dl_plan.proofs.Weights.{common-times, common_from, times, weight_sum_pos}
pub use Rattle.dl_plan.specs.Clause.{Clause, IsClause, kept}
pub use Rattle.dl_plan.specs.Common.{CanShare, HasCommonFactor, IsPoisson, expected_of, raised, shared_probabilities, thinned_of, unit_share}
pub use Rattle.dl_plan.specs.Count.{IsClaimCount, IsExposed, IsGammaCount, IsShape, IsThinnedGamma, IsThinnedTo, IsUnbounded, expected_count, expected_count as expected_of_plan}
pub use Rattle.dl_plan.specs.Fine.{HasPartsOf48Bits, IsFineTo40Bits, IsWhole, common_denominator}
unfoldable pub use Rattle.dl_plan.specs.Horizon.{horizon}
pub use Rattle.dl_plan.specs.Means.{thinned_mean}
pub use Rattle.dl_plan.specs.Prelude.{changed_units, declared_mean, growth, whole_mean, whole_means}
pub use Rattle.dl_plan.specs.Severity.{HasDistribution, Pairs, mean_amount, pairs_of, probability, probability_of}
pub use Rattle.dl_plan.specs.Valid.{IsAggregate, IsNewZero, IsSomeClaim, IsValid, IsValidUnit, IsWithinMostAmount}
pub use Rattle.dl_plan.specs.Weighted.{IsWeighted, common_amount, common_weight, weight_at, weight_sum, weighted_sum}
pub use Rattle.dl_plan.specs.declared.item.Item.{Item}
pub use Rattle.dl_plan.specs.declared.plan.Freq.{Freq}
pub use Rattle.dl_plan.specs.declared.plan.Plan.{Plan}
pub use Rattle.dl_plan.specs.declared.plan.Unit.{Unit as UnitOfPlan}
pub use Rattle.dl_plan.specs.declared.settings.Settings.{Settings}
pub use Rattle.dl_plan.specs.declared.severity.Sev.{Sev}
pub use Rattle.dl_reading.proofs.ClauseGrids.{clauses_layered}
pub use Rattle.dl_reading.proofs.ClauseLaws.{clause_fine, made_is_clause, turn_none}
pub use Rattle.dl_reading.proofs.FineUnits.{final_few, final_means, final_near, keeps_whole}
pub use Rattle.dl_reading.proofs.Firsts.{else_none, first-append, from_map}
pub use Rattle.dl_reading.proofs.GridUnits.{grid_is, within_is}
pub use Rattle.dl_reading.proofs.Items.{Rising, item_share, items_in, none_later, rises, support_all, support_positive}
pub use Rattle.dl_reading.proofs.Meaning.{alike_own, scored_alike}
pub use Rattle.dl_reading.proofs.Mixing.{seconds-zip, weighed_are, weights_length}
pub use Rattle.dl_reading.proofs.Near.{in_layer_near, items_near}
pub use Rattle.dl_reading.proofs.Nothing.{else_first, else_second, not_at}
pub use Rattle.dl_reading.proofs.OffGrid.{made_whole, multiples_none, sums_none}
pub use Rattle.dl_reading.proofs.PastEdges.{fits_tried}
pub use Rattle.dl_reading.proofs.Positive.{is_positive, support_step}
pub use Rattle.dl_reading.proofs.SevSteps.{sev_of}
pub use Rattle.dl_reading.proofs.SevThere.{final_there}
pub use Rattle.dl_reading.proofs.Shared.{all_left, all_right, common_divides, fine_probabilities, probabilities_fine}
pub use Rattle.dl_reading.proofs.Turns.{NoneTurned, turn_ended, turn_found, turn_passed, turn_start}
pub use Rattle.dl_reading.proofs.Values.{never, not_above, zero_above}
pub use Rattle.dl_reading.proofs.Wider.{flaws_wider, fractions_wider, severity_wider}
pub use Rattle.dl_reading.specs.CheckedClauses.{IsClauseLayered}
pub use Rattle.dl_reading.specs.CheckedGrid.{IsClauseWithin, IsGridUnit, IsWithin}
pub use Rattle.dl_reading.specs.CheckedUnit.{IsFineSev, IsLayered}
pub use Rattle.dl_reading.specs.Clauses.{ceded_layer, clause_of, is_off_multiples, made_of, shares_of}
pub use Rattle.dl_reading.specs.FineParts.{fractions_too_fine, has_probs, has_severity, has_shares}
pub use Rattle.dl_reading.specs.First.{at_if, within, ◌else◌}
unfoldable pub use Rattle.dl_reading.specs.First.{first_in, in_turn}
pub use Rattle.dl_reading.specs.Flaws.{AgreeToFirst, IsClean, IsRead, spans}
unfoldable pub use Rattle.dl_reading.specs.Grid.{grid_of}
pub use Rattle.dl_reading.specs.Grid.{given_zero, grid_clause, grid_count, grid_mixture, grid_with}
pub use Rattle.dl_reading.specs.Lists.{are_fine, is_above, is_admitted, is_fine, is_whole, is_zero, probs_of}
pub use Rattle.dl_reading.specs.Parts.{AreProbabilities}
unfoldable pub use Rattle.dl_reading.specs.Reading.{flaws_of}
pub use Rattle.dl_reading.specs.Reading.{flaws_of_mixture, flaws_with}
unfoldable pub use Rattle.dl_reading.specs.Rules.{off_grid_cession, other_length}
pub use Rattle.dl_reading.specs.Rules.{common_amount_of, count_lengths, off_grid_amounts, off_grid_sums}
pub use Rattle.dl_reading.specs.Severity.{KeepsWhole, final_severity, made_pairs, severity_in_layer, support}
pub use Rattle.dl_reading.specs.Small.{IsGridCount, IsSmall}
pub use Rattle.dl_reading.specs.Values.{if_there, is_bad_numeral, value}
pub use Rattle.dl_reading.specs.declared.flaws.Flaws.{Flaws}
pub use Rattle.dl_reading.specs.declared.flaws.Gridded.{Gridded}
pub use Rattle.dl_reading.specs.declared.grid.GridClause.{GridClause}
pub use Rattle.dl_reading.specs.declared.grid.GridCount.{GridCount}
pub use Rattle.dl_reading.specs.declared.grid.GridCount.TheVariants.{Exposed, Listed}
pub use Rattle.dl_reading.specs.declared.grid.GridExposure.{GridExposure}
pub use Rattle.dl_reading.specs.declared.grid.GridFreq.{GridFreq}
pub use Rattle.dl_reading.specs.declared.grid.GridFreq.TheVariants.{Bernoulli, Binomial, Fixed, Gamma, Poisson}
pub use Rattle.dl_reading.specs.declared.grid.GridUnit.{GridUnit}
pub use Rattle.dl_reading.specs.declared.grid.Shares.{Shares}
pub use Rattle.dl_reading.specs.declared.grid.ValueList.{ValueList}
pub use Rattle.dl_reading.specs.declared.made.MadeClause.{MadeClause}
pub use Rattle.dl_rules.specs.Answer.{AnswersGrid, AnswersUnit, AnswersUnits, AnswersWith, HasFault, IsCheckOf, StopsAt}
pub use Rattle.dl_rules.specs.Checked.{IsCountChecked, IsFreqChecked, IsSet, IsShaped, IsSmallFreq, IsWholeCount, IsWholeFreq}
pub use Rattle.dl_rules.specs.Claimed.{AreClaims, IsFinal, IsNumberOf, IsUnitCount, count_of, number_of}
pub use Rattle.dl_rules.specs.Exposures.{admitted, claims_above_zero, claims_of, has_count, is_held, is_there_and, is_unbounded, shape_of, thinned}
unfoldable pub use Rattle.dl_rules.specs.Exposures.{expected_claims}
unfoldable pub use Rattle.dl_rules.specs.Factor.{is_too_large, running_sum}
pub use Rattle.dl_rules.specs.Factor.{IsCounted, IsVariation, Part, amount_shares, claim_share, claims_expected, common_multiple, has_no_next, is_coarse_under, part_in, part_of, part_of_mixture, part_on, passes_bounds, passes_with, times_amounts}
pub use Rattle.dl_rules.specs.Faults.{AllKept, bounds_asked, breaks, by, cells_asked, change_rules, clause_rules, common_size, count_rules, fault_of_mixture, fault_of_severity, fault_of_text, first_broken, grid_rules, most_asked, number_rules, parts_in, sizes_in, text_rules, total_too_large, whole_rules}
unfoldable pub use Rattle.dl_rules.specs.Faults.{fault_of_port, fault_of_total, fault_on_grid, fault_with, first_fault, first_fault_of}
pub use Rattle.dl_rules.specs.Known.{IsKnown, IsMixtureRead}
pub use Rattle.dl_rules.specs.Listed.{AreCounts, pairs_of_counts}
pub use Rattle.dl_rules.specs.Plans.{IsCedeOf, IsCountMade, IsCountOf, IsCountWith, IsPlanOf, IsSharedShape, IsTableOf, IsUnitOf, IsUnitOn, IsUnitWith, IsWrittenShape, aggregate_clause, cede_of, freq_with}
pub use Rattle.dl_rules.specs.Rules.{exposure_span, freq_span, freq_too_fine, has_bad_shape, has_common, has_no_base, has_no_shape, is_claim_rare, is_coarse_over, is_one_rare, is_plain_poisson, is_poisson, is_shape_large, no_shape_of, passes, repeated, shape_too_fine}
unfoldable pub use Rattle.dl_rules.specs.Rules.{common_shape, common_unit, count_above_one, count_not_whole, duplicate_name, duplicate_severity, exposed_too_fine, has_too_many_claims, horizon_too_large, shape_not_whole, too_fine, too_many_claims, too_many_units, trials_not_whole, zero_base, zero_mean}
unfoldable pub use Rattle.dl_rules.specs.Severities.{mixture_of, named}
pub use Rattle.dl_rules.specs.Severities.{body_span}
pub use Rattle.dl_rules.specs.Totals.{Size, claims_in, is_total_large, size_in, size_of, size_of_mixture, size_on, whole_size}
pub use Rattle.dl_rules.specs.UnitNames.{names_of, severity_names}
pub use Rattle.dl_rules.specs.declared.fault.CheckFault.{CheckFault}
pub use Rattle.dl_rules.specs.declared.fault.CheckFault.TheVariants.{OutOfMemory, Typing}
pub use Rattle.dl_rules.specs.declared.fault.TypeFault.{TypeFault}
pub use Rattle.dl_rules.specs.declared.known.KnownSeverity.{KnownSeverity}
pub use Rattle.dl_rules.specs.declared.rule.Rule.{Rule}
pub use Rattle.dl_rules.specs.declared.rule.Rule.TheVariants.{DuplicateName, HorizonTooLarge, OffGridCession, TooFine, TooManyClaims, ZeroBase, ZeroMean}
pub use Rattle.dl_severity.proofs.Whole.{divides_whole, quotient_whole, whole_divides}
pub use Rattle.dl_severity.specs.Weighing.{sum_of}
pub use Rattle.std.proofs.Common.{Bool, Bor, List, None, Option, Some, [], add-one, ap, ap₂, arith, cond, drop, drop-cons, false, flat_map, fold, get_or, if◌then◌else◌, inl, inr, length, map, mul-pos, mul_comm, nat_eq, nat_lt, not, refl, rules, subst, suc, sym, take, true, zero, zip, ℕ, ◌%◌, ◌&&◌, ◌*◌, ◌++◌, ◌+◌, ◌/◌, ◌<◌, ◌==◌, ◌||◌, ◌∙◌, ◌∷◌, ◌≡◌, ◌≢◌, ◌≤◌, ◌⊎◌}
pub use Rattle.std.proofs.Math.Bool.{and-false, or-true}
pub use Rattle.std.proofs.Math.Bridge.{le_prop}
pub use Rattle.std.proofs.Math.Nat.{dvd-mul_right, eq-one_of_dvd-one, eq-zero-or-pos, eq_of_mul-eq-mul_right, mul-le-mul, mul-le-mul_left, mul-le-mul_right, pos_of_dvd_of_pos, ℕ_set}
pub use Rattle.std.proofs.lemmas.Bool.{and_parts, both_ways, cases_lt, eq-eqb, eqb-true, le-leb, le-ltb, leb-true, lt-leb, lt-ltb, ltb-false, ltb-true, ne_eqb, not-false, or_parts, some_since}
pub use Rattle.std.proofs.lemmas.Bool.Decides.{eqb_tells, nat_tests}
pub use Rattle.std.proofs.lemmas.Grind.{flat_map-append}
pub use Rattle.std.proofs.lemmas.List.{drop_all, flat_map_more, get_or-map, get_or_default, length-map, length-replicate, length-take-le, map-append, map_more, take-append-drop, take_all, take_more}
pub use Rattle.std.proofs.lemmas.List.Concat.{flat_map-cons}
pub use Rattle.std.proofs.lemmas.List.Elements.{All-append, All-cons, All-head, All-map, All-nil, All-tail, same_from_all_zip}
pub use Rattle.std.proofs.lemmas.List.Quantifiers.{all_pairs_push}
pub use Rattle.std.proofs.lemmas.List.Sums.{fold-append, get_or-le-sum_by, sum_by-cons}
pub use Rattle.std.proofs.lemmas.Nat.Gcd.{dvd-zero, dvd_antisymm, dvd_refl, dvd_trans, le_of_dvd}
pub use Rattle.std.proofs.lemmas.Option.{slice_get_cases}
pub use Rattle.std.proofs.lemmas.Result.{IfOk-weaker}
pub use Rattle.std.proofs.lemmas.Simd.{map-map}
pub use Rattle.std.proofs.lemmas.Slice.Eq.{bytes_eq-Decides}
pub use Rattle.std.proofs.lemmas.Slice.Zip.{AllZip-long, all_zipped_more}
pub use Rattle.std.specs.Int.{div_ceil}
pub use Rattle.std.specs.List.{All, AllPairs, AllZip, list_any, take-map}
pub use Rattle.std.specs.Option.{IfSome, SomeIff}
pub use Rattle.std.specs.Prelude.{Err, IfErr, IfOk, IsNone, Ok, OnOk, Result, count_by, is_some, nat_le, option_and_then, slice_get, sum_by, ⊤}
pub use Rattle.std.specs.Result.{IsErr, IsErrAnd, is_err}
pub use Rattle.std.specs.Str.{bytes_eq}
pub use Prim.Native.Nat.{◌∣◌}
