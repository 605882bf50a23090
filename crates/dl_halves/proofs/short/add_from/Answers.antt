use Rattle.dl_halves.proofs.Common.{◌+◌, ap, arith, get_or}
use Rattle.dl_halves.proofs.Written.{changed_more}
use Rattle.dl_halves.proofs.short.add_from.Goals as goal

pub loop-t-preserved : goal.loop-t-preserved
loop-t-preserved c =
    let t = c.loop-t.t in
    changed_more _ _ _ _ t _ (omega (arith, c.requires.within, c.loop-t-test.true, c.loop-t.auto.out))
    (ap (λ n. n + get_or c.args.more.now t 0) (c.loop-t.invariant.last (c.args.start + t) (omega arith)))
    c.loop-t.invariant
