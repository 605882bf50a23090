use Rattle.dl_grid.proofs.Common.{take, arith, ap, ◌∙◌}
use Rattle.dl_grid.proofs.EndLists.{cells_long, ends_reach, ends_taken, view_taken}
use Rattle.dl_grid.proofs.grid.Grid.truncate.Goals as goal

pub slice_bounds-from_slice-end : goal.slice_bounds-from_slice-end
slice_bounds-from_slice-end g c = ends_reach _ _ c.g.invariant c.g.view_is (omega arith) c.requires.within

pub slice_bounds-from_slice-end-2 : goal.slice_bounds-from_slice-end-2
slice_bounds-from_slice-end-2 g c = ends_reach _ _ c.g.invariant c.g.view_is (omega arith) c.requires.within

pub returns : goal.returns
returns g c =
    let p = c.g.invariant in
    rw (c.in_ok-lows.ensures.items, c.in_ok-highs.ensures.items, c.as_slice.ensures.value, c.as_slice-2.ensures.value)
    (view_taken c.args.cells c.requires.some (rw (← c.g.view_is, cells_long p) at c.requires.within) p
    ∙ ap (take c.args.cells) c.g.view_is)

pub invariant_of-result : goal.invariant_of-result
invariant_of-result g c =
    let p = c.g.invariant in
    rw (c.in_ok-lows.ensures.items, c.in_ok-highs.ensures.items, c.as_slice.ensures.value, c.as_slice-2.ensures.value)
    (ends_taken c.args.cells c.requires.some (rw (← c.g.view_is, cells_long p) at c.requires.within) p)
