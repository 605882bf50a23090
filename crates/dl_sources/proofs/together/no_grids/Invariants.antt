use Rattle.dl_sources.proofs.Common.{◌≡◌, None, replicate}
use Rattle.dl_sources.proofs.together.no_grids.Given as goal

abbrev pub invariant-units : goal.invariant-units
invariant-units g l = l.grids.items ≡ replicate l.counter None
