use Rattle.dl_product.proofs.Common.{◌+◌, ◌*◌, ◌∙◌, arith, get_or, length-set}
use Rattle.dl_product.proofs.Apart.{one_written}
use Rattle.dl_product.proofs.steps.spread_out.Goals as goal

pub loop-k-preserved : goal.loop-k-preserved
loop-k-preserved c =
    let at = c.args.start + c.loop-k.k * c.args.step in
    let i = c.loop-k.invariant in
    record {
      long = length-set c.loop-k.out.items at (get_or c.args.items.now c.loop-k.k 0) ∙ i.long;
      written = one_written c.args.start c.args.step c.loop-k.k c.args.items.now c.loop-k.out.items c.requires.some
          (omega (arith, i.long, c.requires.inside c.loop-k.k (omega (arith, c.loop-k-test.true)))) i.written;
    }
