use Rattle.dl_sources.proofs.Common.{◌≡◌, ◌++◌, replicate}
use Rattle.dl_sources.proofs.halves.add_means.Given as goal

abbrev pub invariant-units : goal.invariant-units
invariant-units g l = l.means.items ≡ l.fn.means.items ++ replicate l.counter l.mean
