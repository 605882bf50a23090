-- Both clauses are ones.
use Rattle.dl_reading.proofs.ClauseGrids.{clauses_layered}
use Rattle.dl_reading.proofs.made.make_clauses.Goals as goal

pub made-requires : goal.made-requires
made-requires c = (clauses_layered c.args.unit.now c.requires).0

pub made-requires-2 : goal.made-requires-2
made-requires-2 c = (clauses_layered c.args.unit.now c.requires).1
