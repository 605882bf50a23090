use Rattle.dl_measures.proofs.Common.{arith, whole_spread}
use Rattle.dl_measures.proofs.Sums.{high_sum}
use Rattle.dl_measures.proofs.MarkLaws.{mark_of}
use Rattle.dl_measures.proofs.distribution.Distribution.spread.Goals as goal

pub overflow_sub-result : goal.overflow_sub-result
overflow_sub-result g c = omega (
  arith,
  (mark_of c.highs.ensures.sums c.cells-cells.result c.at.ensures).sum,
  (mark_of c.lows.ensures.sums c.cells-cells.result c.at-2.ensures).sum,
  high_sum c.cells-cells.result c.args.self.now,
)

pub returns : goal.returns
returns g c = omega (
  arith,
  (mark_of c.highs.ensures.sums c.cells-cells.result c.at.ensures).sum,
  (mark_of c.lows.ensures.sums c.cells-cells.result c.at-2.ensures).sum,
  high_sum c.cells-cells.result c.args.self.now,
  whole_spread c.cells-cells.result c.args.self.now (omega arith),
)
