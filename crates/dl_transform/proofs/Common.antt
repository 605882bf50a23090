-- The names that the proofs of this crate cite most, passed on from one place. Declares nothing.
pub use Rattle.dl_exact.proofs.Counts.{below_first, below_none, pairs_le, pairs_none, pairs_plus, pairs_same}
pub use Rattle.dl_exact.proofs.Writing.{set_done, set_each, set_rest}
unfoldable pub use Rattle.dl_exact.specs.Count.{count_below, count_pairs}
pub use Rattle.dl_transform.specs.Ends.{high_at, high_sum, low_sum, mixed_sum}
pub use Rattle.dl_transform.specs.Lists.{AreBelow, AreHalves, AreItemsBelow, AreOver, AreValues, AreValuesBelow, IsPart, IsTableFor, mixed_at, product_at}
unfoldable pub use Rattle.dl_transform.specs.Polynomial.{eval}
pub use Rattle.dl_transform.specs.Products.{other}
pub use Rattle.dl_transform.specs.Residue.{Same}
unfoldable pub use Rattle.dl_transform.specs.Table.{point}
pub use Rattle.dl_transform.specs.Table.{IsTable, value_at}
pub use Rattle.dl_transform.specs.declared.tables.Table.{Table}
pub use Rattle.std.proofs.Common.{List, [], ap, ap₂, arith, below_more, div-mul-le_self, drop, get_or, inl, inr, length, mul-le-mul_left, mul-le-mul_right, pow-suc, refl, rules, slice_index, suc, sum_by, sym, take, zero, ℕ, ◌%◌, ◌*◌, ◌++◌, ◌+◌, ◌-◌, ◌/◌, ◌<◌, ◌^◌, ◌∙◌, ◌∷◌, ◌≡◌, ◌≤◌}
pub use Rattle.std.proofs.Math.ListN.{get_or-append, set}
pub use Rattle.std.proofs.Math.Nat.{add-mod, add-mul-mod_self_right, div-add-mod, le_trans, lt-div-mul-add, lt_of_mul-lt-mul_right, mod-eq_of_lt, mod-mod, mul-le-mul, pow-le-pow_right, pow-zero, suc-add}
pub use Rattle.std.proofs.lemmas.Bool.{cases_lt, eqb-true, lt-ltb, ltb-true}
pub use Rattle.std.proofs.lemmas.List.{get_or-append_right, get_or-drop, get_or-set_other, get_or-set_same, get_or-take, get_or_past, get_or_read, length-drop, length-set, length-take, take_rest}
pub use Rattle.std.proofs.lemmas.List.Sums.{sum_by-cons}
pub use Rattle.std.proofs.lemmas.Nat.{div-add-mod', div_below, mod_below, mul-mod, mul-mod_first, one_shl, pow-add, pow_pos}
pub use Rattle.std.specs.Prelude.{All, min, true}
