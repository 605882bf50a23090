-- The names that the proofs of this crate cite most, passed on from one place. Declares nothing.
pub use Rattle.dl_exact.proofs.BelowOne.{num_below}
pub use Rattle.dl_exact.proofs.Counts.{below_bound, below_grows, below_le, below_more, below_nothing, below_same}
pub use Rattle.dl_exact.proofs.Denominators.{over_one, over_plus, over_rest, over_zero}
pub use Rattle.dl_exact.proofs.Laws.{by_two, le_of_lt, le_plus, le_refl, le_trans, lt_not_le, lt_of_le_of_lt, lt_or_le, one_pos, plus_comm, plus_le_both, plus_le_cancel, plus_le_plus, plus_zero, ring, sub_plus, times_comm, times_le_both, times_one, whole_plus, zero_le, zero_times}
pub use Rattle.dl_exact.proofs.Over.{le_over, lt_over, over_add, over_div, over_le, over_lt, over_mul, over_same, over_self, over_sub}
pub use Rattle.dl_exact.proofs.RoundingLaws.{div_ceil_least, le_whole}
pub use Rattle.dl_exact.proofs.Sums.{sum_over_append}
pub use Rattle.dl_exact.proofs.SumsOver.{below_over, to_over}
unfoldable pub use Rattle.dl_exact.specs.Count.{count_below}
pub use Rattle.dl_exact.specs.Fraction.{Fraction, whole, ◌*ℚ◌, ◌+ℚ◌, ◌-ℚ◌, ◌/ℚ◌, ◌<ℚ◌, ◌over◌, ◌≤ℚ◌}
pub use Rattle.dl_exact.specs.Sum.{sum_below, sum_to}
unfoldable pub use Rattle.dl_exact.specs.Sum.{sum_over}
pub use Rattle.dl_grid.proofs.CellLaws.{cells_fit, high_le, one_fits, one_in_range, scale_of, size_of, width_within}
pub use Rattle.dl_grid.proofs.EndLists.{spread_is}
pub use Rattle.dl_grid.proofs.PlaceSums.{low_sum, whole_spread}
pub use Rattle.dl_grid.proofs.Room.{masses_fit, size_few}
pub use Rattle.dl_grid.proofs.WidthLaws.{up_quotient}
pub use Rattle.dl_grid.specs.Cells.{IsGrid, high_at, low_at, mass_high, spread}
pub use Rattle.dl_grid.specs.Width.{layer_width, tail_width, up}
pub use Rattle.dl_iv.proofs.Enclosures.{lies_between}
pub use Rattle.dl_iv.proofs.Rounding.{ceiling_reaches}
pub use Rattle.dl_iv.specs.declared.interval.Iv.{Iv}
pub use Rattle.dl_measures.specs.Brackets.{IsFirstAtLeast, IsFirstFound}
pub use Rattle.dl_measures.specs.Ends.{IsTight, high_cdf, high_layer, low_cdf, low_layer}
pub use Rattle.dl_measures.specs.Layers.{layer_most}
pub use Rattle.dl_measures.specs.Prices.{AreQuantiles, AreTermsOf, most_tail, price_width, term_of, term_width}
pub use Rattle.dl_measures.specs.Running.{AreFew, AreMarks, IsMark, IsRunningOf, end_at}
pub use Rattle.dl_measures.specs.declared.marks.Mark.{Mark}
pub use Rattle.dl_model.proofs.Alike.{not_both}
pub use Rattle.dl_model.proofs.Bounded.{are_units, quantity_bounded, whole_positive}
pub use Rattle.dl_model.proofs.Bracket.{quantile_inside}
pub use Rattle.dl_model.proofs.Declared.{at_least_plus, at_least_wider, at_most_plus, at_most_wider, scaled_least, scaled_most}
pub use Rattle.dl_model.proofs.Ends.{above_ends, below_holds, cdf_most_one, excess_ends, to_holds}
pub use Rattle.dl_model.proofs.Minus.{at_most_minus}
pub use Rattle.dl_model.proofs.Outcomes.{outcomes_rise}
pub use Rattle.dl_model.proofs.PriceLaws.{price_sums, tail_bracket, tail_start}
pub use Rattle.dl_model.proofs.Scores.{cdf_points, layer_survivals, mean_split}
pub use Rattle.dl_model.proofs.TailEnds.{tail_most}
pub use Rattle.dl_model.specs.Family.{Encloses, GridEncloses}
pub use Rattle.dl_model.specs.Measures.{AreDeclared, IsBracketed, IsQuantile, above, survival}
pub use Rattle.dl_model.specs.Prelude.{Price, PricedTerm, Series}
pub use Rattle.dl_model.specs.Program.{AreDeclarable, Cdf, Layer, Loss, Mean, One, Point, Quantity, Tail, partial_sums, score, total}
pub use Rattle.dl_model.specs.Series.{AtLeast, AtMost, Holds, IsBound, plus}
pub use Rattle.dl_plan.specs.Horizon.{edge_of}
pub use Rattle.dl_plan.specs.declared.settings.Term.{Term}
pub use Rattle.std.proofs.Common.{List, [], add-one, ap, ap₂, arith, div-add-mod', drop, get_or, inl, inr, length, min, refl, subst, subst₂, suc, sum_by, sym, take, zero, ℕ, ◌*◌, ◌++◌, ◌+◌, ◌-◌, ◌/◌, ◌<◌, ◌^◌, ◌∙◌, ◌∷◌, ◌≡◌, ◌≤◌}
pub use Rattle.std.proofs.Math.Nat.{add-sub_of_le, add-zero, div-le_self, div-mul-le_self, min-eq_left, min-eq_right, min-le_right, mod-lt, mul-le-mul, mul-le-mul_left, mul-le-mul_right, mul-pos}
pub use Rattle.std.proofs.Math.Seq.{get_or-append_seam}
pub use Rattle.std.proofs.lemmas.Bool.{cases_lt}
pub use Rattle.std.proofs.lemmas.Grind.{div_ceil_times}
pub use Rattle.std.proofs.lemmas.List.{get_or-map, get_or_append_left, length-append, length-map, take-append-drop, take_all, take_more}
pub use Rattle.std.proofs.lemmas.List.Elements.{All-head, All-more, All-tail}
pub use Rattle.std.proofs.lemmas.List.Sums.{sum_by-append, sum_by-cons, sum_by-le}
pub use Rattle.std.proofs.lemmas.Nat.{pow_pos}
pub use Rattle.std.specs.Int.{div_ceil}
pub use Rattle.std.specs.Prelude.{All, None, Option, Some, false, true}
pub use mathlib.Core.Path.{fun_ext}
