use Rattle.dl_transform.proofs.Common.{◌≤◌, get_or, arith, below_more}
use Rattle.dl_transform.proofs.bounds.most.Goals as goal
use Rattle.dl_transform.proofs.bounds.most.Goals.{then-x-most, else-x-most}

pub loop-x-preserved : goal.loop-x-preserved
loop-x-preserved c = elim c.if-x-most.branch [
  | then-x-most w ↦ rw w.most-is (record {
    above = below_more (λ k. get_or c.args.xs.now k 0 ≤ get_or c.args.xs.now c.loop-x.x-index 0) c.loop-x.x-index
        (λ k b. omega (arith, c.loop-x.invariant.above k b, w.if-x-most.true)) (omega arith);
    least = λ m h. h c.loop-x.x-index;
  })
  | else-x-most w ↦ rw w.most-is (record {
    above = below_more (λ k. get_or c.args.xs.now k 0 ≤ c.loop-x.most) c.loop-x.x-index c.loop-x.invariant.above
        w.if-x-most.false;
    least = c.loop-x.invariant.least;
  })
]
