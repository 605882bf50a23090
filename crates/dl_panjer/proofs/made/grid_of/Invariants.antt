use Rattle.dl_panjer.proofs.Common.{◌≡◌, take, map}
use Rattle.dl_panjer.proofs.made.grid_of.Given as goal

abbrev pub invariant-loop-cell : goal.invariant-loop-cell
invariant-loop-cell g l = record {
  low : l.lows.items ≡ map (λ t. t.lo) (take l.cell-index l.cells);
  high : l.highs.items ≡ map (λ t. t.hi) (take l.cell-index l.cells);
}
