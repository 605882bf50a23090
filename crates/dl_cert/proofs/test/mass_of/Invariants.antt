use Rattle.dl_cert.proofs.Common.{◌≡◌, take, mass_low}
use Rattle.dl_cert.proofs.test.mass_of.Given as goal

abbrev pub invariant-loop-cell : goal.invariant-loop-cell
invariant-loop-cell l = l.mass ≡ mass_low (take l.cell-index l.cells)
