-- The names that the proofs of this crate cite most, passed on from one place. Declares nothing.
pub use Rattle.dl_exact.proofs.Laws.{one_times, times_assoc, times_comm}
pub use Rattle.dl_exact.proofs.Lists.{from_there}
pub use Rattle.dl_exact.proofs.Results.{if_ok_two}
pub use Rattle.dl_exact.specs.Fraction.{Fraction, ◌*ℚ◌, ◌over◌}
pub use Rattle.dl_grid.proofs.CellLaws.{scale_of, size_of}
pub use Rattle.dl_grid.proofs.CellSets.{high_take, low_take, spread_none}
pub use Rattle.dl_grid.proofs.EndLists.{same_cells}
pub use Rattle.dl_grid.proofs.Room.{size_within}
pub use Rattle.dl_grid.proofs.WidthLaws.{cv_rises}
pub use Rattle.dl_grid.specs.Cells.{all_at_zero, high_at, low_at, spread}
pub use Rattle.dl_grid.specs.Convolution.{IsConvolution}
pub use Rattle.dl_grid.specs.Width.{sum_spread}
unfoldable pub use Rattle.dl_grid.specs.Width.{convolution_spread}
pub use Rattle.dl_iv.specs.declared.interval.Iv.{Iv}
pub use Rattle.dl_model.proofs.FamilyLaws.{convolution_encloses, encloses_same}
pub use Rattle.dl_model.proofs.FiniteCounts.{all_at_zero_encloses}
pub use Rattle.dl_model.proofs.Powers.{at_zero_convolve, convolve_assoc, convolve_comm}
pub use Rattle.dl_model.proofs.Without.{without_suc}
pub use Rattle.dl_model.specs.Family.{GridEncloses}
pub use Rattle.dl_model.specs.Measures.{unit_of}
pub use Rattle.dl_model.specs.Program.{AreDeclarable, IsLoss, Loss, total}
pub use Rattle.dl_totals.specs.Chosen.{AreApart, AreSumsOfChosen, KeepsChosen, chosen, in_some, no_choice, passed}
pub use Rattle.dl_totals.specs.Shared.{AreSumsWithout, AreUnits, EnclosesSum, HaveCells, IsOnly, IsSumOfPart, IsSumWithout, IsTotal}
pub use Rattle.dl_totals.specs.Sums.{EncloseEach}
pub use Rattle.dl_totals.specs.Tree.{AreNodes, AreOthers, IsForest, IsJoint, IsSumOutside, IsSumPicked, IsTree, ReachDown, last_place, sum_at}
pub use Rattle.dl_totals.specs.declared.tree.Node.{Node}
pub use Rattle.std.proofs.Common.{Bool, List, [], add-one, ap, append_assoc, ap₂, arith, cond, drop, get_or, inl, inr, length, map, nat_eq, nat_lt, not, refl, replicate, set, subst, subst₂, suc, sym, take, zero, zero-add, ℕ, ◌&&◌, ◌++◌, ◌+◌, ◌-◌, ◌/◌, ◌<◌, ◌^◌, ◌∙◌, ◌∷◌, ◌≡◌, ◌≢◌, ◌≤◌}
pub use Rattle.std.proofs.Math.Bool.{and_comm, or_comm}
pub use Rattle.std.proofs.Math.Nat.{suc-add}
pub use Rattle.std.proofs.Math.Seq.{get_or-append_seam}
pub use Rattle.std.proofs.lemmas.Bool.{cases_eq, cases_lt, eq-eqb, eqb-true, false≢true, le-ltb, lt-ltb, ne_eqb}
pub use Rattle.std.proofs.lemmas.Bool.Decides.{Decides-eqb, nat_tests}
pub use Rattle.std.proofs.lemmas.Grind.{common_steps, get_or-set_at}
pub use Rattle.std.proofs.lemmas.List.{append-nil, drop-replicate, drop_all, get_or-append_right, get_or-drop, get_or-map, get_or-replicate, get_or-set_other, get_or-take, get_or_append_left, get_or_default, length-append, length-drop, length-map, length-replicate, length-set, length-take, length-take-le, map-append, replicate_more, take-append-drop, take-replicate, take_all}
pub use Rattle.std.proofs.lemmas.List.Edits.{get_or-remove_above, get_or-remove_below, length-remove}
pub use Rattle.std.proofs.lemmas.List.Elements.{All-append, All-cons, All-drop, All-nil, All-take}
pub use Rattle.std.proofs.lemmas.List.Sums.{fold-append, fold_more, sum_by-append, sum_by-cons, sum_by-remove, sum_by-take-le, sum_by_push}
pub use Rattle.std.proofs.lemmas.Nat.{pow_pos}
pub use Rattle.std.proofs.lemmas.Option.{IfSome_then}
pub use Rattle.std.proofs.lemmas.Result.{IfOk-weaker}
pub use Rattle.std.proofs.lemmas.Slice.Eq.{slice_eq-Decides}
pub use Rattle.std.specs.List.{Any, fold, remove, slice_get, sum_by}
pub use Rattle.std.specs.Option.{option_copied, option_to_list}
pub use Rattle.std.specs.Prelude.{IfSome, IsSome, IsTrue, None, Option, Some, false, ◌↔◌}
