use Rattle.dl_sources.proofs.Common.{None, replicate-append-replicate}
use Rattle.dl_sources.proofs.together.no_grids.Goals as goal

pub units-preserved : goal.units-preserved
units-preserved g c = rw (c.in_ok-push.ensures.items, c.units.invariant) (replicate-append-replicate _ 1 None)
