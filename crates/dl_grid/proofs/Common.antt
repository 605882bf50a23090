-- The names that the proofs of this crate cite most, passed on from one place. Declares nothing.
pub use Rattle.std.proofs.Common.{List, [], add-one, ap, ap₂, arith, get_or, inl, inr, length, refl, replicate, set, subst, suc, sum, sym, take, zero, ℕ, ◌*◌, ◌++◌, ◌+◌, ◌-◌, ◌/◌, ◌<◌, ◌^◌, ◌∙◌, ◌∷◌, ◌≡◌, ◌≤◌}
pub use Rattle.std.proofs.Math.Nat.{div-add-mod, div-le_of_le-mul, div-mul-le_self, le_of_mul-le-mul_right, le_trans, mul-le-mul, mul-le-mul_left, mul-le-mul_right, mul-pos, mul-sub, pow-le-pow_right}
pub use Rattle.std.proofs.lemmas.Bool.Decides.{eqb_tells, leb_tells}
pub use Rattle.std.proofs.lemmas.Grind.{div_ceil_times, get_or_default_zero, pow_more}
pub use Rattle.std.proofs.lemmas.List.{get_or-map, get_or-replicate, get_or-set_other, get_or-set_same, get_or-take, get_or_append_left, length-map, length-replicate, length-set, length-take-le, map-append, map-set, take-map, take_all}
pub use Rattle.std.proofs.lemmas.List.Sums.{get_or-le-sum_by, sum-map, sum_by-cons, sum_by-le, sum_by-set, sum_by-take-le}
pub use Rattle.std.proofs.lemmas.Nat.{pow_pos}
pub use Rattle.std.specs.Int.{div_ceil}
pub use Rattle.std.specs.Prelude.{All, IfSome, IsSome, None, Option, Some, SomeIff, if◌then◌else◌, map, min, sum_by, ◌==◌}
pub use Rattle.dl_limits.specs.Limits.{long_bits, most_cells, most_fine_cells}
unfoldable pub use Rattle.dl_limits.specs.Limits.{most_cells_at}
unfoldable pub use Rattle.dl_exact.specs.Count.{count_below}
pub use Rattle.dl_exact.specs.Count.{count_pairs}
pub use Rattle.dl_iv.specs.declared.interval.Iv.{Iv}
pub use Rattle.dl_grid.specs.Cells.{AreEnds, IsGrid, high_ends, low_ends, mass_high, mass_low, spread}
unfoldable pub use Rattle.dl_grid.specs.Cells.{all_at_zero, cell_by, cells_of, high_at, low_at}
pub use Rattle.dl_grid.specs.Room.{HasRoom, IsGridSize}
