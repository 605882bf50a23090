-- The scale is that of the plan's grid.
use Rattle.dl_limits.proofs.Scales.{bits_of_long, bits_of_short}
use Rattle.std.proofs.Common.{arith}
use Rattle.dl_top.proofs.evaluation.evaluate.Goals as goal

pub answered-requires-clause-plan : goal.answered-requires-clause-plan
answered-requires-clause-plan c = record {
  scale = bits_of_short c.args.plan.now.cells c.if-plan-le-MOST_SHORT_CELLS.true;
  valid = c.requires.valid;
}

pub answered-requires-else-plan-le-MOST_SHORT_CELLS-clause-plan : goal.answered-requires-else-plan-le-MOST_SHORT_CELLS-clause-plan
answered-requires-else-plan-le-MOST_SHORT_CELLS-clause-plan c = record {
  scale = bits_of_long c.args.plan.now.cells (omega (arith, c.if-plan-le-MOST_SHORT_CELLS.false));
  valid = c.requires.valid;
}
