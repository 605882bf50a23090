use Rattle.dl_totals.proofs.Common.{◌≡◌, ◌^◌, map, take, fold, spread, convolution_spread}
use Rattle.dl_totals.proofs.widths.spread_with.Given as goal

abbrev pub invariant-loop-unit : goal.invariant-loop-unit
invariant-loop-unit g l = l.most ≡ fold (convolution_spread (2 ^ g.row.B) l.cells) l.sum (take l.unit-index (map spread l.units))
