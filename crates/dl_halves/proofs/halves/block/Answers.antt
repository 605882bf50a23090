use Rattle.dl_halves.proofs.Common.{arith, map, map-set, length-map, below_more}
use Rattle.dl_halves.proofs.Written.{fills_more}
use Rattle.dl_halves.proofs.Karatsuba.{column_size, block_size}
use Rattle.dl_halves.proofs.halves.block.Goals as goal

pub loop-s-preserved : goal.loop-s-preserved
loop-s-preserved g c = record {
  done = rw map-set (fills_more _ (map g.R.Ring.value c.loop-s.out) c.loop-s.s _
      (omega (arith, length-map c.loop-s.out g.R.Ring.value))
      c.column-sum.ensures.value c.loop-s.invariant.done);
  products = omega (
    arith,
    c.column-sum.ensures.products,
    c.loop-s.invariant.products,
    below_more c.loop-s.s column_size,
    c.requires.long,
  );
}

pub returns-clause-products : goal.returns-clause-products
returns-clause-products g c = omega (
  arith,
  c.loop-s.invariant.products,
  block_size c.loop-s.s (omega (arith, c.requires.long, c.requires.room)),
)
