-- The names that the proofs of this crate cite most, passed on from one place. Declares nothing.
pub use Rattle.dl_ast.specs.WellFormed.{IsFormedAtom, IsFormedCeded, IsFormedCession, IsFormedCount, IsFormedItem, IsFormedList, IsFormedMixture, IsFormedUnit}
pub use Rattle.dl_ast.specs.declared.ast.Atom.{Atom}
pub use Rattle.dl_ast.specs.declared.ast.CededLayer.{CededLayer}
pub use Rattle.dl_ast.specs.declared.ast.Cession.{Cession}
pub use Rattle.dl_ast.specs.declared.ast.CountAst.{CountAst}
pub use Rattle.dl_ast.specs.declared.ast.Exposure.{Exposure}
pub use Rattle.dl_ast.specs.declared.ast.Exposure.TheVariants.{Claims, Loss, Premium}
pub use Rattle.dl_ast.specs.declared.ast.FreqAst.{FreqAst}
pub use Rattle.dl_ast.specs.declared.ast.FreqAst.TheVariants.{Bernoulli, Binomial, Fixed, Gamma, Geometric, Poisson}
pub use Rattle.dl_ast.specs.declared.ast.Layer.{Layer}
pub use Rattle.dl_ast.specs.declared.ast.LimitAst.{LimitAst}
pub use Rattle.dl_ast.specs.declared.ast.LimitAst.TheVariants.{Finite, Infinite}
pub use Rattle.dl_ast.specs.declared.ast.ListAst.{ListAst}
pub use Rattle.dl_ast.specs.declared.ast.ListItem.{ListItem}
pub use Rattle.dl_ast.specs.declared.ast.MixAst.{MixAst}
pub use Rattle.dl_ast.specs.declared.ast.Numeral.{Numeral}
pub use Rattle.dl_ast.specs.declared.ast.UnitAst.{UnitAst}
pub use Rattle.dl_ast.specs.declared.ast.ZeroAst.{ZeroAst}
pub use Rattle.dl_ast.specs.declared.ast.ZeroAst.TheVariants.{Modified, Plain, Truncated}
pub use Rattle.dl_exact.proofs.Counts.{below_none, below_plus, below_same}
pub use Rattle.dl_exact.proofs.Denominators.{same_num}
pub use Rattle.dl_exact.proofs.Laws.{div_times, le_plus, lt_of_lt_of_le, one_times, plus_comm, ring, times_assoc, times_cancel, times_one, times_plus, times_zero, zero_or_pos, zero_plus, zero_times}
pub use Rattle.dl_exact.proofs.Multiples.{lcm_least, lowest_by}
pub use Rattle.dl_exact.proofs.Over.{lt_over, over_le, over_lt, over_same, over_self}
pub use Rattle.dl_exact.proofs.Parts.{lowest_den, num_pos, pos_num, quotient_is, whole_den, whole_num}
pub use Rattle.dl_exact.proofs.Sums.{sum_over_append, sum_over_map, sum_over_same, sum_over_times, sum_to_longer, sum_to_plus, sum_to_same, sum_to_zero}
pub use Rattle.dl_exact.proofs.SumsOver.{sum_over_common}
unfoldable pub use Rattle.dl_exact.specs.Count.{count_below}
pub use Rattle.dl_exact.specs.Fraction.{Fraction, whole}
unfoldable pub use Rattle.dl_exact.specs.Fraction.{◌*ℚ◌, ◌+ℚ◌, ◌/ℚ◌, ◌<ℚ◌, ◌over◌, ◌≤ℚ◌}
pub use Rattle.dl_exact.specs.Multiples.{lcm}
pub use Rattle.dl_frac.proofs.SmallNumerals.{numeral_small}
pub use Rattle.dl_frac.specs.Exact.{IsTooFine}
pub use Rattle.dl_lexer.specs.declared.token.Span.{Span}
pub use Rattle.dl_limits.specs.Limits.{most_amount, most_atoms, most_layers, most_parts, most_range_parts, most_values, most_weights}
pub use Rattle.dl_limits.specs.Rules.{AreBounds, AreWithin}
pub use Rattle.dl_limits.specs.declared.rules.Bounds.{Bounds}
pub use Rattle.dl_plan.proofs.Apart.{kept_le}
pub use Rattle.dl_plan.proofs.Clauses.{kept_only, kept_whole, layer_le, num_le_den}
pub use Rattle.dl_plan.proofs.CommonDenominators.{common_from, common_from_divides, common_pos, common_take-le, den_divides, lcm_pos}
pub use Rattle.dl_plan.proofs.Fits.{given_ok, over_fits}
pub use Rattle.dl_plan.proofs.Horizons.{attach_le, edges_from}
pub use Rattle.dl_plan.proofs.Shares.{items_over, none_over, probability-conditioned, probability-shares, weight_over-le}
pub use Rattle.dl_plan.proofs.Straight.{IsClear}
pub use Rattle.dl_plan.proofs.Weights.{divided_is, divided_means, weight_sum_pos}
pub use Rattle.dl_plan.specs.Clause.{Clause, IsBelowTop, IsClause, Overlap, kept, layer, layer_shares}
pub use Rattle.dl_plan.specs.Fine.{IsFineTo30Bits, IsFineTo40Bits, IsWhole, common_denominator, numerator_over}
pub use Rattle.dl_plan.specs.Horizon.{edge}
pub use Rattle.dl_plan.specs.Parts.{kept_parts, parts_in_bucket}
pub use Rattle.dl_plan.specs.Prelude.{common_weight, divided_by, probability_of}
pub use Rattle.dl_plan.specs.Severity.{HasDistribution, Pairs, conditioned, mass, pairs_of, probability, shares}
pub use Rattle.dl_plan.specs.Weighted.{amounts_of, weight_at, weight_sum}
pub use Rattle.dl_plan.specs.declared.cede.CedeLayer.{CedeLayer}
pub use Rattle.dl_plan.specs.declared.item.Item.{Item}
pub use Rattle.dl_plan.specs.declared.severity.Sev.{Sev}
pub use Rattle.dl_reading.proofs.Firsts.{at_item}
pub use Rattle.dl_reading.proofs.Nothing.{else_first, else_second, none_each, not_at}
pub use Rattle.dl_reading.specs.CheckedClauses.{IsClauseLayered}
pub use Rattle.dl_reading.specs.CheckedGrid.{IsClauseWithin, IsGridAtom, IsGridClause, IsGridSev, IsGridUnit, IsLayerWithin, IsSevWithin, IsWithin}
pub use Rattle.dl_reading.specs.CheckedUnit.{IsFineSev, IsLayered, IsWeighted}
pub use Rattle.dl_reading.specs.Clauses.{IsMade, ceded_layer, clause_of, greatest_edge, is_below_top, is_off, is_off_multiples, made_of, overlaps, part_of, share_of, shares_of}
pub use Rattle.dl_reading.specs.FineParts.{fractions_too_fine, has_atoms, has_probs, has_severity, has_shares}
pub use Rattle.dl_reading.specs.First.{at_if, first_in, in_turn, within, ◌else◌}
unfoldable pub use Rattle.dl_reading.specs.First.{first_in, in_turn}
pub use Rattle.dl_reading.specs.Flaws.{AgreeOnLists, AgreeToFirst, AreNone, IsClean, IsRead, IsReadTo, KeepsLengths, KeepsLists, earlier_flaws, flaws_else, flaws_within, lengths_at, long_at, no_flaws, range_at, spans, sum_at}
unfoldable pub use Rattle.dl_reading.specs.Flaws.{flaws_in}
pub use Rattle.dl_reading.specs.Grid.{count_with, freq_of, given_zero, grid_atom, grid_ceded, grid_clause, grid_count, grid_exposure, grid_freq, grid_layer, grid_list, grid_mixture, grid_shares, grid_with, limit_value, number_of, share_beside, shares_at, zero_value}
unfoldable pub use Rattle.dl_reading.specs.Grid.{grid_of}
pub use Rattle.dl_reading.specs.Listed.{listed_beside, listed_flaws}
pub use Rattle.dl_reading.specs.Lists.{are_fine, is_above, is_fine, is_not_one, is_one, is_whole, is_zero, probs_among, weights_over}
pub use Rattle.dl_reading.specs.Parts.{AreProbabilities, IsSevWeighted}
pub use Rattle.dl_reading.specs.Reading.{are_many_values, flaws_beside, flaws_of_amount, flaws_of_amounts, flaws_of_atom, flaws_of_ceded, flaws_of_clause, flaws_of_count, flaws_of_distribution, flaws_of_exposure, flaws_of_freq, flaws_of_item, flaws_of_layer, flaws_of_limit, flaws_of_limit_number, flaws_of_list, flaws_of_mixture, flaws_of_money, flaws_of_numeral, flaws_of_share, flaws_of_shares, flaws_of_zero, flaws_with, is_long_mixture, is_named, is_no_range, values_in}
unfoldable pub use Rattle.dl_reading.specs.Reading.{flaws_of}
pub use Rattle.dl_reading.specs.Rules.{common_amount_of, count_lengths, off_grid_amounts, off_grid_sums, part_exceeds, share_exceeds}
unfoldable pub use Rattle.dl_reading.specs.Rules.{none_above, off_grid_cession, other_length, overlap, overlap_in, share_above_one, share_above_one_in, weights_differ}
pub use Rattle.dl_reading.specs.Severity.{KeepsWhole, atom_pairs, atom_probs, ceded_pairs, final_severity, is_conditioned, layer_pairs, made_pairs, mixed, mixed_pairs, mixture_shares, severity_in_layer, shares_in_mixture, support, weights_of}
pub use Rattle.dl_reading.specs.Small.{IsGridCount, IsGridExposure, IsGridFreq, IsShares, IsSmall, IsValueList}
pub use Rattle.dl_reading.specs.Values.{AreTooMany, if_there, range_of, spanned_in, spanned_item, spanned_range, spanned_values, value, value_or, values_of}
pub use Rattle.dl_reading.specs.declared.flaws.Flaws.{Flaws}
pub use Rattle.dl_reading.specs.declared.flaws.Gridded.{Gridded}
pub use Rattle.dl_reading.specs.declared.grid.GridAtom.{GridAtom}
pub use Rattle.dl_reading.specs.declared.grid.GridCeded.{GridCeded}
pub use Rattle.dl_reading.specs.declared.grid.GridClause.{GridClause}
pub use Rattle.dl_reading.specs.declared.grid.GridCount.{GridCount}
pub use Rattle.dl_reading.specs.declared.grid.GridFreq.{GridFreq}
pub use Rattle.dl_reading.specs.declared.grid.GridLayer.{GridLayer}
pub use Rattle.dl_reading.specs.declared.grid.GridSev.{GridSev}
pub use Rattle.dl_reading.specs.declared.grid.GridShare.{GridShare}
pub use Rattle.dl_reading.specs.declared.grid.GridUnit.{GridUnit}
pub use Rattle.dl_reading.specs.declared.grid.Shares.{Shares}
pub use Rattle.dl_reading.specs.declared.grid.ValueList.{ValueList}
pub use Rattle.dl_reading.specs.declared.made.MadeClause.{MadeClause}
pub use Rattle.dl_severity.proofs.Gathering.{below-with, positive-with, rising-with, some_items, weight_at-with, weight_sum-with}
pub use Rattle.dl_severity.proofs.Lattices.{on_line}
pub use Rattle.dl_severity.proofs.Mapped.{if_ok}
pub use Rattle.dl_severity.proofs.Mixed.{firsts, mixture_one, seconds, weighed-back}
pub use Rattle.dl_severity.proofs.Sharing.{shares_back, sum_map, sum_one}
pub use Rattle.dl_severity.specs.Buckets.{HasPartsOf18Digits, buckets}
pub use Rattle.dl_severity.specs.Fits.{FitsStep}
pub use Rattle.dl_severity.specs.Ranges.{IsRange, range_denominator, range_values, steps_in, value_at}
pub use Rattle.dl_severity.specs.Steps.{ceded_each, items_of, layered, mixture, mixture_of, scaled, weighed, with_amount, with_amounts, with_weighed}
pub use Rattle.dl_severity.specs.Weighed.{IsWeighing}
pub use Rattle.dl_severity.specs.Weighing.{sum_of}
pub use Rattle.dl_severity.specs.declared.fault.ExpandFault.{ExpandFault}
pub use Rattle.dl_severity.specs.declared.fault.ExpandFault.TheVariants.{OutOfMemory, TooLong}
pub use Rattle.dl_severity.specs.declared.range.Range.{Range}
pub use Rattle.dl_severity.specs.declared.weights.Weights.{Weights}
pub use Rattle.std.proofs.Common.{Bool, IsTrue, List, None, Option, Some, [], ap, append_assoc, ap₂, arith, cond, drop, false, filter, flat_map, get_or, inl, inr, length, length-append, map, max, min, mul-pos, nat_eq, nat_lt, not, refl, rules, subst, suc, sym, take, true, zero, zip, ℕ, ◌%◌, ◌&&◌, ◌*◌, ◌++◌, ◌+◌, ◌/◌, ◌<◌, ◌==◌, ◌^◌, ◌||◌, ◌↔◌, ◌∙◌, ◌∷◌, ◌≡◌, ◌≢◌, ◌≤◌, ◌⊎◌}
pub use Rattle.std.proofs.Math.Bool.{and-false, and-true}
pub use Rattle.std.proofs.Math.ListN.{set}
pub use Rattle.std.proofs.Math.Nat.{div-le_self, div-mul-le_self, eq-zero-or-pos}
pub use Rattle.std.proofs.lemmas.Bool.{and_from, and_parts, and_right, cases_Bool, cases_lt, cond_both, eq-eqb, eqb-true, false_from_ne_true, le-leb, le-ltb, leb-true, lt-ltb, ltb-false, ltb-true, ne_eqb, not-false, not_from_false, or_parts, some_since, true_from_ne_false}
pub use Rattle.std.proofs.lemmas.Bool.Decides.{Decides-eqb, eqb_tells, nat_tests}
pub use Rattle.std.proofs.lemmas.Grind.{flat_map-append}
pub use Rattle.std.proofs.lemmas.List.{append-nil, at_drop_all, at_drop_more, drop_at, flat_map_more, get_or-map, get_or-replicate, get_or-take, get_or_default, length-map, length-replicate, length-take, length-take-le, map-append, map_more, take_all, take_at, take_more}
pub use Rattle.std.proofs.lemmas.List.Edits.{map_over_more}
pub use Rattle.std.proofs.lemmas.List.Elements.{All-append, All-cons, All-contains, All-drop, All-filter, All-head, All-map, All-nil, All-replicate, All-tail, All-take, All-weaker, filter-append, filter_more}
pub use Rattle.std.proofs.lemmas.List.Folds.{flat_map-map, length-flat_map-take, list_all_at, list_all_more, list_any-append, list_any_at, list_any_none, sum_by-replicate}
pub use Rattle.std.proofs.lemmas.List.FromFn.{get_or-range_with_len, length-range_with_len}
pub use Rattle.std.proofs.lemmas.List.Kept.{AllPairs-from_increasing}
pub use Rattle.std.proofs.lemmas.List.Sums.{AllPass-from_list_all, count_by-le-length, length-filter, sum_by-cons, sum_by-le}
pub use Rattle.std.proofs.lemmas.Map.Made.{All-is_member, IsDistinct-from_AllPairs, is_member-Decides, length-le_from_is_member}
pub use Rattle.std.proofs.lemmas.Nat.Gcd.{dvd_of_mod-eq-zero, dvd_refl, le_of_dvd}
pub use Rattle.std.proofs.lemmas.Option.{IfSome_then}
pub use Rattle.std.proofs.lemmas.Simd.{map-map}
pub use Rattle.std.proofs.lemmas.Slice.Zip.{get_or-zip, length-zip}
pub use Rattle.std.specs.Cmp.{IsEquivalence, both_ways}
pub use Rattle.std.specs.List.{All, AllPairs, AllZip, find, list_all, list_any, range_with_len, sum_by}
pub use Rattle.std.specs.List.Sorted.{IsStrictlyIncreasing}
pub use Rattle.std.specs.Option.{IfSome, IsSome, MatchOption, option_map, option_or}
pub use Rattle.std.specs.Prelude.{nat_le, replicate, ⊤}
pub use Rattle.std.specs.Set.{is_member}
pub use Prim.Native.Nat.{◌∣◌}
