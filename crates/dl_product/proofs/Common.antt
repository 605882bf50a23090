-- The names that the proofs of this crate cite most, passed on from one place. Declares nothing.
pub use Rattle.dl_convolution.proofs.Filled.{written}
pub use Rattle.dl_convolution.proofs.Fits.{end_fits, ends_fit, fewer_fit, sum_fits}
pub use Rattle.dl_convolution.specs.Sums.{pair_sum}
pub use Rattle.dl_exact.proofs.Counts.{below_more, below_none, below_nothing, below_pairs, below_same, below_times, nothing_times, pairs_none, pairs_same, times_nothing}
pub use Rattle.dl_exact.proofs.GcdLaws.{gcd_is}
pub use Rattle.dl_exact.proofs.Results.{if_ok_two}
pub use Rattle.dl_exact.proofs.Writing.{set_done, set_rest}
unfoldable pub use Rattle.dl_exact.specs.Count.{count_pairs}
pub use Rattle.dl_exact.specs.Count.{count_below}
pub use Rattle.dl_exact.specs.Gcd.{gcd}
pub use Rattle.dl_grid.proofs.CellLaws.{high_le, size_of}
pub use Rattle.dl_grid.proofs.EndLists.{ends_of_grid, high_at_ends}
pub use Rattle.dl_grid.proofs.Room.{size_few}
pub use Rattle.dl_grid.specs.Cells.{high_at, high_ends, low_at}
pub use Rattle.dl_iv.specs.declared.interval.Iv.{Iv}
pub use Rattle.dl_limits.specs.Limits.{most_cell_end, most_cells}
pub use Rattle.dl_product.specs.Ends.{AreHeadEnds, ArePaired, AreWidths}
pub use Rattle.dl_product.specs.Heads.{IsHead}
pub use Rattle.dl_product.specs.Operand.{AreFactors, HoldsEnds}
pub use Rattle.dl_product.specs.Places.{AreMultiples, IsCount, LieApart, LieFrom}
pub use Rattle.dl_product.specs.Windows.{IsWindow}
pub use Rattle.dl_product.specs.declared.ends.Head.{Head}
pub use Rattle.dl_product.specs.declared.operand.Operand.{Operand}
pub use Rattle.dl_transform.specs.Ends.{AreWords, high_sum}
pub use Rattle.dl_transform.specs.declared.cells.Cells.{Cells}
pub use Rattle.std.proofs.Common.{All, List, [], ap, ap₂, arith, drop, get_or, inl, inr, length, refl, suc, sym, take, zero, zero-add, ℕ, ◌%◌, ◌*◌, ◌+◌, ◌-◌, ◌/◌, ◌<◌, ◌^◌, ◌∙◌, ◌∷◌, ◌≡◌, ◌≢◌, ◌≤◌}
pub use Rattle.std.proofs.Math.ListN.{length-set, set}
pub use Rattle.std.proofs.Math.Nat.{add-mod_left, add-mul-mod_self_right, add-suc, add-zero, add_assoc, eq_of_mul-eq-mul_right, le_trans, lt_of_mul-lt-mul_right, mod-add-div', mod-eq_of_lt, mod-le, mod-lt, mul-le-mul, mul-le-mul_right, mul-mod_left, pow-le-pow_right, suc-add, zero-mul}
pub use Rattle.std.proofs.lemmas.Bool.{cases_eq, cases_lt}
pub use Rattle.std.proofs.lemmas.Grind.{div_ceil_times}
pub use Rattle.std.proofs.lemmas.List.{get_or-drop, get_or-set_other, get_or-set_same, get_or-take, get_or_default, get_or_past, length-take}
pub use Rattle.std.proofs.lemmas.Nat.Gcd.{dvd_of_mod-eq-zero, dvd_refl, dvd_trans, mod-eq-zero_of_dvd}
pub use Rattle.std.specs.Int.{div_ceil}
pub use Rattle.std.specs.Prelude.{max, min, unwrap_or}
