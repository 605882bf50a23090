use Rattle.dl_measures.proofs.Common.{arith, below_more, end_at}
use Rattle.dl_measures.proofs.MarkLaws.{one_end_more, rest_fits, sum_fits}
use Rattle.dl_measures.proofs.marks.walk.Goals as goal

pub overflow_add-sum : goal.overflow_add-sum
overflow_add-sum c = omega (
  arith,
  c.loop-x.invariant.sum,
  sum_fits c.requires.few c.loop-x.x (omega arith),
  c.requires.few.small c.loop-x.x 0 (omega arith),
)

pub overflow_add-rest : goal.overflow_add-rest
overflow_add-rest c = omega (
  arith,
  c.loop-x.invariant.rest,
  c.saturating_sub-rest.ensures,
  rest_fits c.requires.few c.loop-x.x (omega arith),
  c.requires.few.unit,
)

pub loop-x-preserved : goal.loop-x-preserved
loop-x-preserved c = record {
  sum = omega (arith, c.loop-x.invariant.sum, below_more c.loop-x.x (end_at c.args.ends.now));
  rest = rw c.saturating_sub-rest.ensures (one_end_more c.args.one (end_at c.args.ends.now) c.loop-x.x _ _
      c.loop-x.invariant.sum c.loop-x.invariant.rest);
}
