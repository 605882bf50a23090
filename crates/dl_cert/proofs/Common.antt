-- The names that the proofs of this crate cite most, passed on from one place. Declares nothing.
pub use Rattle.dl_budget.proofs.HalvingLaws.{halvings_least}
pub use Rattle.dl_budget.proofs.Rows.{◌also◌}
pub use Rattle.dl_budget.specs.Halvings.{halvings}
pub use Rattle.dl_bytes.proofs.Beginnings.{begins_otherwise, begins_so}
pub use Rattle.dl_bytes.proofs.DigitLaws.{no_sign, number_below, own}
pub use Rattle.dl_bytes.proofs.FirstSign.{after_none, before_none}
pub use Rattle.dl_bytes.specs.Digits.{is_number, is_number_of}
pub use Rattle.dl_cert.specs.Bases.{AreStarts, IsBaseOf, PassesTo, high_base, high_share, low_base, low_share, trial_parts}
pub use Rattle.dl_cert.specs.Covered.{IsCertPlan, IsCovered, IsCoveredUnit, IsTable, IsWholeShaped}
pub use Rattle.dl_cert.specs.Labels.{HasValues, Label, no_unit, once, together}
unfoldable pub use Rattle.dl_cert.specs.Labels.{labelled}
pub use Rattle.dl_cert.specs.Lines.{IsStep, one as by_one, start, start as by_start, times as by_times, with_byte}
unfoldable pub use Rattle.dl_cert.specs.Lines.{AreCells, AreSteps, lines_of}
pub use Rattle.dl_cert.specs.Numbers.{ceiling_of, floor_of, high_number, high_recursion, high_start, low_number, low_recursion, low_start, one, sum_by_amount, sum_plain}
pub use Rattle.dl_cert.specs.PassedSteps.{HasPassedTo, HavePassed, IsOver, IsRow, IsStepAt, count_by, label_at}
pub use Rattle.dl_cert.specs.Passes.{AllPass, Certifies, Passes, made_after}
pub use Rattle.dl_cert.specs.Reading.{BeginsCell, BeginsStep, after_word, first_word, is_blank, is_newline, line_from}
pub use Rattle.dl_cert.specs.Spelling.{IsCell, IsNumber, is_comma}
pub use Rattle.dl_cert.specs.Starts.{IsExactStart}
pub use Rattle.dl_cert.specs.Steps.{IsThere, Made, Step, label_of, made_at, made_by}
pub use Rattle.dl_cert.specs.Targets.{above_zero, part_of, parts_of, parts_of_plan, target, unit_part, unit_parts, where_none}
pub use Rattle.dl_cert.specs.Verified.{AllExact, EndsAtTarget, IsBadLine, IsBadStep, IsCertificate, IsExact, IsVerified, RefusesSteps, Verifies}
pub use Rattle.dl_cert.specs.Written.{CanBeWritten, EndsWith, IsBefore, IsMade, IsSum, IsWritten, Named, cell_text, first_of, kind_text, line_of, often}
unfoldable pub use Rattle.dl_cert.specs.Written.{cells_text, text_of}
pub use Rattle.dl_cert.specs.declared.base.Base.{Base, Base as BaseOfUnit}
pub use Rattle.dl_cert.specs.declared.base.Chance.{Chance}
pub use Rattle.dl_cert.specs.declared.base.Share.{Share}
pub use Rattle.dl_cert.specs.declared.fault.VerifyFault.{VerifyFault}
pub use Rattle.dl_cert.specs.declared.step.Kind.{Kind}
pub use Rattle.dl_cert.specs.declared.step.Kind.TheVariants.{One, Start, Times}
pub use Rattle.dl_cert.specs.declared.steps.Factor.{Factor}
pub use Rattle.dl_exact.proofs.Denominators.{over_times, over_zero, units_of}
pub use Rattle.dl_exact.proofs.Laws.{div_times, le_div, le_plus, le_refl, le_trans, lt_not_le, lt_of_lt_of_le, lt_or_le, one_pos, one_times, over_times_whole, plus_assoc, plus_comm, plus_le_cancel, plus_zero, ring, times_assoc, times_cancel, times_comm, times_le_both, times_le_cancel, times_le_times, times_one, times_pos, times_zero, whole_pos, zero_le, zero_or_pos, zero_plus, zero_times}
pub use Rattle.dl_exact.proofs.Over.{le_over, over_add, over_cross, over_den, over_div, over_le, over_mul, over_num, over_same, over_self}
pub use Rattle.dl_exact.proofs.Parts.{num_pos, over_num_le, whole_den, whole_num}
pub use Rattle.dl_exact.proofs.Powers.{pow_plus}
pub use Rattle.dl_exact.proofs.Results.{if_ok_three, if_ok_two}
pub use Rattle.dl_exact.proofs.RoundingLaws.{ceiling_div, ceiling_one, div_ceil_least, floor_div, floor_one, part_within, whole_le}
pub use Rattle.dl_exact.proofs.Sums.{sum_pairs_same, sum_pairs_times, sum_to_times}
pub use Rattle.dl_exact.proofs.SumsOver.{sum_pairs_over, to_over}
pub use Rattle.dl_exact.specs.Count.{count_pairs}
unfoldable pub use Rattle.dl_exact.specs.Count.{count_below}
pub use Rattle.dl_exact.specs.Fraction.{Fraction, whole}
unfoldable pub use Rattle.dl_exact.specs.Fraction.{◌*ℚ◌, ◌+ℚ◌, ◌/ℚ◌, ◌<ℚ◌, ◌over◌, ◌≤ℚ◌}
unfoldable pub use Rattle.dl_exact.specs.Power.{◌^ℚ◌}
pub use Rattle.dl_exact.specs.Rounding.{IsCeiling, IsFloor}
unfoldable pub use Rattle.dl_exact.specs.Sum.{sum_pairs, sum_to}
pub use Rattle.dl_grid.proofs.CellLaws.{high_at_read, low_at_read}
pub use Rattle.dl_grid.proofs.CellSets.{high_take, low_take}
pub use Rattle.dl_grid.proofs.EndLists.{same_cells}
pub use Rattle.dl_grid.proofs.PlaceSums.{high_at_front, high_at_pushed, low_at_front, low_at_pushed, whole_mass}
pub use Rattle.dl_grid.specs.Cells.{IsGrid, mass_low}
unfoldable pub use Rattle.dl_grid.specs.Cells.{all_at_zero, high_at, low_at}
pub use Rattle.dl_grid.specs.Convolution.{IsConvolution}
pub use Rattle.dl_grid.specs.Room.{IsGridSize}
pub use Rattle.dl_iv.specs.declared.interval.Iv.{Iv}
pub use Rattle.dl_limits.specs.Limits.{most_cert_cells, standard_units}
unfoldable pub use Rattle.dl_limits.specs.Limits.{most_cells_at}
pub use Rattle.dl_model.proofs.AddedCounts.{fixed_past, trial}
pub use Rattle.dl_model.proofs.Alike.{cancel, ends_in_order, level_same, not_both, same_cells_enclosed, same_value, value_trans}
pub use Rattle.dl_model.proofs.Beginnings.{fixed_claims, one_claim_cell, one_trial_cell, trials}
pub use Rattle.dl_model.proofs.Bounded.{are_units, quantity_bounded, whole_positive}
pub use Rattle.dl_model.proofs.CountBounds.{binomial_count, fixed_count, gamma_of_count, poisson_count}
pub use Rattle.dl_model.proofs.Declared.{at_least_times, at_most_wider, rises_to}
pub use Rattle.dl_model.proofs.Ends.{to_holds}
pub use Rattle.dl_model.proofs.FamilyLaws.{cell_at_most_one, compound_proper, encloses_product, encloses_same, itself_one, itself_proper, nothing_proper, proper_product, rises_times, sum_at_least}
pub use Rattle.dl_model.proofs.FiniteCounts.{finite_holds, fixed_sum, nothing_encloses}
pub use Rattle.dl_model.proofs.GammaThin.{gamma_shares}
pub use Rattle.dl_model.proofs.Outcomes.{no_units, total_more, total_more_all, total_proper}
pub use Rattle.dl_model.proofs.Panjer.{poisson_class}
pub use Rattle.dl_model.proofs.PlanThin.{given_part, no_amount_thinned, none_thinned, positive}
pub use Rattle.dl_model.proofs.PlanUnits.{unit_declared, units_declared}
pub use Rattle.dl_model.proofs.PoissonTimes.{poisson_shares}
pub use Rattle.dl_model.proofs.Powers.{at_zero_convolve, convolve_assoc, convolve_comm, power_plus}
pub use Rattle.dl_model.proofs.UnitLaws.{unit_loss, unit_plain, unit_proper}
pub use Rattle.dl_model.proofs.WithinOne.{within_one}
pub use Rattle.dl_model.specs.Compound.{cell, convolve}
unfoldable pub use Rattle.dl_model.specs.Compound.{at_zero, power}
pub use Rattle.dl_model.specs.Counts.{AreCountWeights, IsPanjer, binomial, fixed, gamma_of, poisson}
pub use Rattle.dl_model.specs.Family.{Encloses, Family, GridEncloses, SameCells, compound, nothing, product, times_itself}
pub use Rattle.dl_model.specs.Plans.{after_zero, aggregate_of, aggregates_of, compound_of, loss_of, outcome_after}
pub use Rattle.dl_model.specs.Program.{Loss, total}
unfoldable pub use Rattle.dl_model.specs.Program.{sum_over_outcomes}
pub use Rattle.dl_model.specs.Recursion.{from_before}
pub use Rattle.dl_model.specs.Series.{AtLeast, AtMost, IsBound, Rises, Series, times}
pub use Rattle.dl_model.specs.Severity.{IsPositivePart, IsWithinOne}
pub use Rattle.dl_panjer.proofs.Base.{base_encloses}
pub use Rattle.dl_panjer.proofs.Compounds.{geometric_class, geometric_start}
pub use Rattle.dl_panjer.proofs.EndLaws.{high_encloses, low_encloses}
pub use Rattle.dl_panjer.proofs.ItemSums.{weight_at-cons}
pub use Rattle.dl_panjer.proofs.Outward.{sum_of_amounts, sum_of_weights, sums_by_number, sums_by_rate}
pub use Rattle.dl_panjer.proofs.Recursions.{by_number, by_rate, divided, one_and, rate_of}
pub use Rattle.dl_panjer.proofs.Starts.{sums_are, units_above, units_below, units_over}
pub use Rattle.dl_panjer.proofs.Steps.{counted_pos, high_next_same, low_next_same}
pub use Rattle.dl_panjer.proofs.Terms.{half_parts}
pub use Rattle.dl_panjer.specs.Bases.{FollowsRounded, IsPoissonBase, StartsAtExp}
pub use Rattle.dl_panjer.specs.Cells.{coefficient, high_next, low_next, next_sum}
pub use Rattle.dl_panjer.specs.Ends.{exp_high, exp_low}
pub use Rattle.dl_panjer.specs.Outward.{FollowsOutward, IsCeilingWithin}
pub use Rattle.dl_panjer.specs.declared.rate.Rate.{Rate}
pub use Rattle.dl_plan.proofs.Clauses.{num_le_den}
pub use Rattle.dl_plan.proofs.Fits.{given_value}
pub use Rattle.dl_plan.proofs.Means.{severity_total, total_pos}
pub use Rattle.dl_plan.proofs.Positive.{amounts_positive}
pub use Rattle.dl_plan.specs.Count.{IsClaimCount as IsCountOfPlan, IsGammaCount, IsProbability, IsUnbounded, expected_count}
pub use Rattle.dl_plan.specs.Means.{thinned_mean}
pub use Rattle.dl_plan.specs.Severity.{HasDistribution, conditioned, pairs_of, probability_of}
pub use Rattle.dl_plan.specs.Valid.{IsValid, IsValidUnit}
pub use Rattle.dl_plan.specs.Weighted.{IsWeighted, amounts_of, weight_at, weight_sum}
pub use Rattle.dl_plan.specs.declared.item.Item.{Item}
pub use Rattle.dl_plan.specs.declared.plan.Freq.{Freq}
pub use Rattle.dl_plan.specs.declared.plan.Freq.TheVariants.{Bernoulli, Binomial, Fixed, Gamma, Gamma as GammaCount, Poisson, Poisson as PoissonCount, Table}
pub use Rattle.dl_plan.specs.declared.plan.Plan.{Plan}
pub use Rattle.dl_plan.specs.declared.plan.Unit.{Unit as UnitOfPlan}
pub use Rattle.dl_plan.specs.declared.severity.Sev.{Sev}
pub use Rattle.std.proofs.Common.{Bool, List, None, Some, [], add-one, ap, append-nil, append_assoc, ap₂, arith, codes, cond, drop, false, get_or, inl, inr, leb, leb-true, length, length-append, length-drop, max, mul-pos, mul_comm, pow-suc, refl, rules, subst, subst₂, suc, sym, take, true, true≢false, zero, zero-lt-suc, ℕ, ◌%◌, ◌*◌, ◌++◌, ◌+◌, ◌-◌, ◌/◌, ◌<◌, ◌^◌, ◌∙◌, ◌∷◌, ◌≡◌, ◌≢◌, ◌≤◌, ◌⊎◌}
pub use Rattle.std.proofs.Math.Bool.{or-true}
pub use Rattle.std.proofs.Math.Nat.{add-mul, add-sub_of_le, div-le_self, div-mul-le_self, le-max_left, le-max_right, le_of_mul-le-mul_right, mod-eq_of_lt, mul-le-mul, mul-le-mul_left, mul-le-mul_right, pow-le-pow_right, sub-add_cancel, zero-add}
pub use Rattle.std.proofs.Math.Seq.{drop-append-add, get_or-append_seam, take-append_seam}
pub use Rattle.std.proofs.lemmas.Bool.{and_from, and_parts, cases_Bool, cases_eq, cases_lt, eq-eqb, le-ltb, leb-false, lt-ltb, ne_eqb, or_parts}
pub use Rattle.std.proofs.lemmas.Bool.Decides.{eqb_tells, nat_tests}
pub use Rattle.std.proofs.lemmas.Fmt.{decimal_is_IsNumeral, length-decimal-le}
pub use Rattle.std.proofs.lemmas.Grind.{div_ceil_times}
pub use Rattle.std.proofs.lemmas.List.{append_cancel_left, drop-drop, drop_all, drop_more, get_or-append-add, get_or-map, get_or-take, get_or_append_left, get_or_default, get_or_past, length-map, length-take, length-take-le, map-append, take-append-drop, take_all, take_more}
pub use Rattle.std.proofs.lemmas.List.Elements.{All-append, All-cons, All-head, All-nil, All-push, All-tail}
pub use Rattle.std.proofs.lemmas.List.Folds.{list_all_at, list_any-append, list_any_none}
pub use Rattle.std.proofs.lemmas.List.Kept.{AllPairs-from_increasing}
pub use Rattle.std.proofs.lemmas.List.Sums.{AllPass-from_list_all, fails_before_first, passes_at_first, position_or_len_is, split_at_first, sum_by-le, sum_by-le-sum_by, sum_by-take-le, sum_by_more_le_part}
pub use Rattle.std.proofs.lemmas.Nat.{pow_pos}
pub use Rattle.std.proofs.lemmas.Result.{IfOk-weaker}
pub use Rattle.std.proofs.lemmas.Str.Parse.{IsNumeralModel, digits_value-take-le, digits_value_short, numerals_by_value}
pub use Rattle.std.specs.Char.{digit_value, is_ascii_digit}
pub use Rattle.std.specs.Fmt.{decimal}
pub use Rattle.std.specs.Int.{div_ceil, sum_through}
pub use Rattle.std.specs.List.{after_first, before_first, list_all, list_any, position_or_len}
pub use Rattle.std.specs.List.Sorted.{IsStrictlyIncreasing}
pub use Rattle.std.specs.Prelude.{All, Err, IfOk, IfSome, IsTrue, MatchOption, MatchResult, Ok, Option, Result, if◌then◌else◌, map, min, nat_le, nat_lt, ◌&&◌, ◌==◌, ◌||◌, ◌↔◌}
pub use Rattle.std.specs.Str.Parse.{digits_value}
pub use borrow.Author.Count.{below_more as more_below}
pub use mathlib.Core.Path.{fun_ext}
