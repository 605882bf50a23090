use Rattle.dl_totals.proofs.Common.{◌≡◌, ◌^◌, ◌≤◌, List, ◌++◌, length, map, take, fold, spread, convolution_spread, Loss, AreDeclarable, total, GridEncloses, EncloseEach}
use Rattle.dl_totals.proofs.with_units.Given as goal

abbrev pub invariant-loop-unit : goal.invariant-loop-unit
invariant-loop-unit g l = record {
  cells : length l.sum ≡ l.cells;
  encloses : (us vs : List Loss) → AreDeclarable us → AreDeclarable vs → GridEncloses l.fn.sum (total us)
      → EncloseEach l.units vs
      → GridEncloses l.sum (total (us ++ take l.unit-index vs));
  spread : spread l.sum ≤ fold (convolution_spread (2 ^ g.row.B) l.cells) (spread l.fn.sum) (take l.unit-index (map spread l.units));
}
