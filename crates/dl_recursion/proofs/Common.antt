-- The names that the proofs of this crate cite most, passed on from one place. Declares nothing.
pub use Rattle.std.proofs.Common.{List, [], add-one, add-suc, add-zero, ap, append-nil, ap₂, arith, cond, div-mul-le_self, get_or, inl, inr, le_of_mul-le-mul_right, length, length-append, lt_of_mul-lt-mul_right, max, mul-le-mul, mul-le-mul_left, mul-le-mul_right, mul-pos, pow-add, pow-suc, refl, subst, suc, suc-add, sym, take, zero, zero-mul, ℕ, ◌*◌, ◌++◌, ◌+◌, ◌-◌, ◌/◌, ◌<◌, ◌^◌, ◌∙◌, ◌∷◌, ◌≡◌, ◌≢◌, ◌≤◌, ◌⊎◌}
pub use Rattle.std.proofs.Math.Nat.{div-lt_iff_lt-mul, dvd-mul_right, eq-zero-or-pos, eq_of_mul-eq-mul_left, eq_of_mul-eq-mul_right, le-max_left, le-max_right, lt-div-mul-add, mul-add, one-le-pow, pos_of_dvd_of_pos, pow-le-pow_right, zero-lt-suc}
pub use Rattle.std.proofs.lemmas.Bool.{cases_eq, cases_lt, eq-eqb, ne_eqb}
pub use Rattle.std.proofs.lemmas.List.Sums.{sum_by-append, sum_by-cons, sum_by-set, sum_by_more, sum_by_more_le, sum_by_push}
pub use Rattle.std.specs.List.{All, flat_map, sum, sum_by}
pub use Rattle.std.proofs.lemmas.List.Elements.{All-append, All-head, All-push, All-replicate, All-set, All-tail}
pub use Rattle.std.proofs.lemmas.Bool.Decides.{eqb_tells, leb_tells}
pub use Rattle.std.specs.Prelude.{if◌then◌else◌, min, nat_eq, ◌==◌}
pub use Rattle.std.proofs.Math.ListN.{get_or-append, replicate, set}
pub use Rattle.std.proofs.lemmas.List.{get_or-replicate, get_or_default, get_or-set_other, get_or-set_same, get_or-take, get_or_past, get_or_push, length-replicate, length-set, length-take, take_all, take_more}
pub use Rattle.dl_limits.specs.Limits.{most_cells, most_shape}
pub use Rattle.dl_exact.proofs.Laws.{le_of_eq, le_refl, le_trans, one_pos, one_times, over_times_whole, plus_le_both, plus_times, ring, times_assoc, times_comm, times_le_both, times_le_cancel, times_le_times, times_left_comm, times_one, times_plus, times_pos, whole_plus, whole_pos, whole_times, zero_times}
pub use Rattle.dl_exact.proofs.Over.{le_over, over_add, over_div, over_le, over_lt, over_mul, over_same, over_self}
pub use Rattle.dl_exact.proofs.RoundingLaws.{whole_le}
unfoldable pub use Rattle.dl_exact.specs.Count.{count_below, count_pairs}
pub use Rattle.dl_exact.specs.Fraction.{Fraction, whole}
unfoldable pub use Rattle.dl_exact.specs.Fraction.{◌*ℚ◌, ◌+ℚ◌, ◌/ℚ◌, ◌<ℚ◌, ◌over◌, ◌≤ℚ◌}
unfoldable pub use Rattle.dl_exact.specs.Sum.{sum_pairs, sum_to}
pub use Rattle.dl_exact.proofs.Sums.{halving_bound, sum_pairs_le, sum_pairs_same, sum_pairs_times, sum_pairs_times_right}
pub use Rattle.dl_exact.proofs.Orders.{times_inward, times_outward, times_right_comm, times_second}
pub use Rattle.dl_plan.specs.declared.item.Item.{Item}
pub use Rattle.dl_plan.specs.Weighted.{common_amount, weight_at, weight_sum}
pub use Rattle.dl_model.specs.Compound.{cell, convolve}
unfoldable pub use Rattle.dl_model.specs.Compound.{power}
pub use Rattle.dl_model.specs.Counts.{IsPanjer}
unfoldable pub use Rattle.dl_model.specs.Counts.{gamma, poisson}
pub use Rattle.dl_model.specs.Series.{AtLeast, AtMost, Holds, IsBound, Series, times}
pub use Rattle.dl_recursion.specs.ToGrid.{HasGridEnds, IsScaled}
pub use Rattle.dl_recursion.specs.Runs.{ArePositiveAmounts, IsRun, all_parts, part_at, part_sum, run_parts}
unfoldable pub use Rattle.dl_recursion.specs.Runs.{in_a_row}
pub use Rattle.dl_recursion.specs.Recursion.{HasRoom, HasRoomOver, AreEnds, AreFalling, AreLast, AreScaledCells, AreWindow, AreWindows, FollowsInWhole, EncloseScaled, AreInScale, IsWindow, cell_before, contribution}
pub use Rattle.dl_start.specs.Start.{HoldsNoClaim}
pub use Rattle.dl_recursion.specs.declared.parts.Part.{Part}
pub use Rattle.dl_recursion.specs.declared.parts.Run.{Run}
pub use Rattle.dl_recursion.specs.declared.cells.Window.{Window}
pub use Rattle.dl_recursion.specs.declared.cells.Windows.{Windows}
