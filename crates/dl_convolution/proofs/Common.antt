-- The names that the proofs of this crate cite most, passed on from one place. Declares nothing.
pub use Rattle.std.proofs.Common.{List, [], ap, ap₂, arith, drop, get_or, inl, inr, length, map, refl, rules, set, subst, suc, sym, take, zero, ℕ, ◌%◌, ◌*◌, ◌++◌, ◌+◌, ◌-◌, ◌/◌, ◌<◌, ◌^◌, ◌∙◌, ◌∷◌, ◌≡◌, ◌≢◌, ◌≤◌}
pub use Rattle.std.proofs.Math.ListN.{get_or-eq_default}
pub use Rattle.std.proofs.Math.Nat.{add-mul-mod_self_right, le_trans, mod-eq_of_lt, mod-mod, mul-le-mul, mul-le-mul_right, one-le-pow}
pub use Rattle.std.proofs.lemmas.Bool.{cases_lt}
pub use Rattle.std.proofs.lemmas.Grind.{get_or_default_zero}
pub use Rattle.std.proofs.lemmas.List.{append-nil, drop-map, drop_all, get_or-append-add, get_or-drop, get_or-map, get_or-set_other, get_or-set_same, get_or-take, get_or_append_left, get_or_past, length-drop, length-map, length-take, length-take-le, map-append, map-set, take-map, take_all}
pub use Rattle.std.proofs.lemmas.Nat.{pow_pos}
pub use Rattle.std.specs.Int.{div_ceil}
pub use Rattle.std.specs.Prelude.{All, max, min, sum}
pub use Rattle.dl_exact.proofs.Counts.{below_bound, below_first, below_more, below_none, below_pairs, below_rest, below_same, nothing_times, pairs_le, pairs_plus, pairs_same, times_nothing}
unfoldable pub use Rattle.dl_exact.specs.Count.{count_below, count_pairs}
pub use Rattle.dl_grid.proofs.CellLaws.{high_le, scale_of, size_of}
pub use Rattle.dl_convolution.specs.Sums.{ItemsFit, pair_sum}
