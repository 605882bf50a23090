-- The names that the proofs of this crate cite most, passed on from one place. Declares nothing.
unfoldable pub use Rattle.dl_exact.specs.Count.{count_below, count_pairs}
pub use Rattle.dl_exact.specs.Fraction.{Fraction, whole}
unfoldable pub use Rattle.dl_exact.specs.Fraction.{lesser, read_as, ◌*ℚ◌, ◌+ℚ◌, ◌-ℚ◌, ◌/ℚ◌, ◌<ℚ◌, ◌over◌, ◌≤ℚ◌}
unfoldable pub use Rattle.dl_exact.specs.Gcd.{euclid, gcd}
pub use Rattle.dl_exact.specs.Multiples.{IsLcm}
unfoldable pub use Rattle.dl_exact.specs.Multiples.{lcm}
unfoldable pub use Rattle.dl_exact.specs.Power.{factorial, ◌^ℚ◌}
pub use Rattle.dl_exact.specs.Rounding.{IsCeiling, IsFloor}
unfoldable pub use Rattle.dl_exact.specs.Rounding.{up}
unfoldable pub use Rattle.dl_exact.specs.Sum.{sum_below, sum_over, sum_pairs, sum_to}
pub use Rattle.std.proofs.Common.{Equal, Greater, Less, List, Ordering, [], add-one, add-suc, add-zero, ap, ap₂, arith, div-add-mod', div-le_self, div-one, drop, get_or, inl, inr, le-mul_of_pos_right, le_of_mul-le-mul_right, length, length-drop, lt_of_mul-lt-mul_right, map, min, mod-lt, mul-le-mul_right, mul-lt-mul_of_pos_right, mul-pos, mul_comm, refl, subst, subst₂, suc, suc-add, sym, take, zero, zero-add, zero-mul, ℕ, ◌%◌, ◌*◌, ◌++◌, ◌+◌, ◌-◌, ◌/◌, ◌<◌, ◌∙◌, ◌∷◌, ◌≡◌, ◌≤◌}
pub use Rattle.std.proofs.Math.Bridge.{le_prop}
pub use Rattle.std.proofs.Math.ListN.{set}
pub use Rattle.std.proofs.Math.Nat.{div-mul_cancel, dvd-mul_left, dvd-mul_right, dvd-mul_right_of_dvd, dvd-sub, dvd_of_mul-dvd-mul_right, eq-one_of_dvd-one, eq-zero-or-pos, eq_of_mul-eq-mul_right, mul-div-mul_right, mul-dvd-mul_left, mul-dvd-mul_right, mul-le-mul_left, mul-sub, pos_of_dvd_of_pos, sub-zero, suc-sub-suc, zero-lt-suc, ℕ_set}
pub use Rattle.std.proofs.Math.Path.{fun_ext}
pub use Rattle.std.proofs.lemmas.Bool.{cases_eq, cases_lt}
pub use Rattle.std.proofs.lemmas.Cmp.{ranked}
pub use Rattle.std.proofs.lemmas.Grind.{div_ceil_times}
pub use Rattle.std.proofs.lemmas.List.{get_or-set_other, get_or-set_same, get_or_append_left, get_or_default, get_or_push, length-append, take_all}
pub use Rattle.std.proofs.lemmas.List.Elements.{All-append, All-cons, All-nil}
pub use Rattle.std.proofs.lemmas.List.Sums.{sum_by-cons}
pub use Rattle.std.proofs.lemmas.Nat.{le-div, mod-mul-add}
pub use Rattle.std.proofs.lemmas.Nat.Gcd.{IsGcd-from_mod, IsGcd-from_zero, IsGcd-swap, dvd-zero, dvd_antisymm, dvd_trans, same_from_IsGcd}
pub use Rattle.std.specs.Bool.{then_some}
pub use Rattle.std.specs.Int.{IsGcd, div_ceil, sum_through}
pub use Rattle.std.specs.List.{sum, sum_by}
pub use Rattle.std.specs.Ordering.{MatchOrdering, nat_cmp}
pub use Rattle.std.specs.Prelude.{Err, IfOk, Ok, Result}
pub use native.Mathlib.Decide.{le_ind}
