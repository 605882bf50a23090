use Rattle.dl_transform.proofs.Common.{arith, ltb-true}
use Rattle.dl_transform.proofs.Widths.{mixed_small, uncut}
use Rattle.dl_transform.proofs.bounds.are_narrow.Goals as goal

pub returns : goal.returns
returns c told s =
    let p = c.args.p in
    let small = ltb-true c.saturating_add.result p told in
    let sum = uncut _ _ _ c.saturating_add.ensures (omega (arith, small)) in
    let first = uncut _ _ _ c.saturating_mul-first.ensures (omega (arith, small, sum)) in
    let second = uncut _ _ _ c.saturating_mul-second.ensures (omega (arith, small, sum)) in
    mixed_small c.args.a.lows.now c.args.a.widths.now c.args.b.lows.now c.args.b.widths.now c.total-3.result
    c.total.result c.total-2.result c.most.result c.most-2.result s p c.total-3.ensures.sum c.total.ensures.sum
    c.total-2.ensures.sum c.most.ensures.above c.most-2.ensures.above (omega (arith, small, sum, first, second))
