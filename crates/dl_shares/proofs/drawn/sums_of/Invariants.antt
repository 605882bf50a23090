use Rattle.std.proofs.Common.{take, ◌≡◌}
use Rattle.dl_shares.proofs.drawn.sums_of.Given as goal

abbrev pub invariant-loop-grid : goal.invariant-loop-grid
invariant-loop-grid g l = l.sums.items ≡ take l.grid-index l.drawn.grids.items
