use Rattle.dl_product.proofs.Common.{◌≡◌, ◌*◌, get_or, arith, refl, ◌∙◌, length-set, set_done}
use Rattle.dl_product.proofs.Apart.{all_taken, multiple_inside}
use Rattle.dl_product.proofs.steps.take_multiples.Goals as goal

pub bounds-xs-k : goal.bounds-xs-k
bounds-xs-k c =
    multiple_inside c.args.step _ c.loop-k.k c.requires (omega (arith, c.loop-k-test.true, c.loop-k.invariant.long))

pub loop-k-preserved : goal.loop-k-preserved
loop-k-preserved c =
    let i = c.loop-k.invariant in
    let v = get_or c.args.xs.now (c.loop-k.k * c.args.step) 0 in
    record {
      long = length-set c.loop-k.out.items c.loop-k.k v ∙ i.long;
      done = set_done (λ k item. item ≡ get_or c.args.xs.now (k * c.args.step) 0) c.loop-k.out.items c.loop-k.k v
          (omega (arith, c.loop-k-test.true, i.long)) i.done refl;
    }

pub returns-clause-each : goal.returns-clause-each
returns-clause-each c =
    let i = c.loop-k.invariant in
    all_taken c.args.step c.loop-k.k c.args.xs.now c.loop-k.out.items c.requires i.long
    (omega (arith, c.loop-k-test.false, i.long)) i.done
