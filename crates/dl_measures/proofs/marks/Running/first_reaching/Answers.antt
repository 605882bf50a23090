use Rattle.dl_measures.proofs.Common.{suc, ◌*◌, ◌<◌, ap, arith, count_below, below_more, end_at}
use Rattle.dl_measures.proofs.MarkLaws.{next_end, one_more_before, sum_fits, times_fits}
use Rattle.dl_measures.proofs.marks.Running.first_reaching.Goals as goal

pub loop-x-init : goal.loop-x-init
loop-x-init c = record { sum = c.mark-sum.ensures.sum; before = c.blocks_below-blocks.ensures.before }

pub overflow_add-sum : goal.overflow_add-sum
overflow_add-sum c = omega (
  arith,
  c.loop-x.invariant.sum,
  sum_fits c.requires.running.few c.loop-x.x (omega arith),
  c.requires.running.few.small c.loop-x.x 0 (omega arith),
)

pub overflow_mul-sum : goal.overflow_mul-sum
overflow_mul-sum c =
    let sum = next_end c.args.self.ends.now c.loop-x.x _ c.loop-x.invariant.sum in
    omega (arith, times_fits c.requires.running.few (suc c.loop-x.x) _ c.args.den (omega arith) sum c.requires.den)

pub returns-then-sum-den-clause-before : goal.returns-then-sum-den-clause-before
returns-then-sum-den-clause-before c = c.loop-x.invariant.before

pub returns-then-sum-den-clause-reached : goal.returns-then-sum-den-clause-reached
returns-then-sum-den-clause-reached c inside =
    omega (arith, ap (λ sum. sum * c.args.den) (next_end c.args.self.ends.now c.loop-x.x _ c.loop-x.invariant.sum))

pub loop-x-preserved : goal.loop-x-preserved
loop-x-preserved c =
    let sum = next_end c.args.self.ends.now c.loop-x.x _ c.loop-x.invariant.sum in
    let short : count_below (suc c.loop-x.x) (end_at c.args.self.ends.now) * c.args.den < c.args.goal =
    omega (arith, ap (λ sum. sum * c.args.den) sum) in
    record {
      sum = omega (arith, c.loop-x.invariant.sum, below_more c.loop-x.x (end_at c.args.self.ends.now));
      before = one_more_before (λ x. count_below (suc x) (end_at c.args.self.ends.now) * c.args.den < c.args.goal)
          c.loop-x.x c.loop-x.invariant.before short;
    }

pub returns-clause-before : goal.returns-clause-before
returns-clause-before c x h = c.loop-x.invariant.before x (omega arith)
