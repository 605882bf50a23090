use Rattle.dl_transform.proofs.Common.{◌+◌, ◌*◌, ◌^◌, ap, arith, mul-le-mul_right, lt-ltb, ltb-true}
use Rattle.dl_transform.proofs.Widths.{high_small, uncut}
use Rattle.dl_transform.proofs.bounds.are_sums_small.Goals as goal

pub returns-clause-sums : goal.returns-clause-sums
returns-clause-sums c told s =
    let small = ltb-true c.saturating_mul.result (2 ^ 123) told in
    let all = uncut _ _ _ c.saturating_mul.ensures (omega (arith, small)) in
    high_small c.args.a.lows.now c.args.a.widths.now c.args.b.lows.now c.args.b.widths.now c.total.result c.total-2.result
    c.greatest_high.result s _ c.total.ensures.sum c.total-2.ensures.sum c.greatest_high.ensures.above
    (omega (arith, small, all))

pub returns-clause-found : goal.returns-clause-found
returns-clause-found c below =
    let least = c.greatest_high.ensures.least below.greatest below.above in
    lt-ltb c.saturating_mul.result (2 ^ 123) (omega (
      arith,
      c.saturating_mul.ensures,
      mul-le-mul_right (c.total.result + c.total-2.result) least,
      ap (λ t. below.greatest * t) c.total.ensures.sum,
      ap (λ t. below.greatest * t) c.total-2.ensures.sum,
      below.below,
    ))
