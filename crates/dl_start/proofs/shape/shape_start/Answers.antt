use Rattle.dl_start.proofs.Common.{arith, mul-le-mul_left, whole, le_over, one_pos, ◌+ℚ◌, ◌/ℚ◌, over_self, gamma, num_below, HoldsNoClaim}
use Rattle.dl_start.proofs.Shares.{ratio_is}
use Rattle.dl_start.proofs.Products.{two_le}
unfoldable use Rattle.dl_start.proofs.Widths.{ratio}
use Rattle.dl_start.proofs.Widths.{ratio_next, ratio_last}
use Rattle.dl_start.proofs.shape.shape_start.Goals as goal

pub by_digits-requires-clause-below : goal.by_digits-requires-clause-below
by_digits-requires-clause-below c =
    rw (c.num-2.ensures.part, c.den-2.ensures.part) (num_below c.args.t c.requires.below)

pub returns-clause-holds : goal.returns-clause-holds
returns-clause-holds c =
    let beta = c.args.beta in
    let x = beta /ℚ (whole 1 +ℚ beta) in
    let one : HoldsNoClaim (gamma (whole 1) x) c.fine_start-one.result =
    rw (c.num.ensures.part, c.den.ensures.part, ratio_is beta) at c.fine_start-one.ensures.holds in
    rw (c.num-2.ensures.part, c.den-2.ensures.part, over_self c.args.t) at
    (c.by_digits.ensures.holds x one (λ r h. c.any_start.ensures.holds r x h one))

pub returns-clause-narrow : goal.returns-clause-narrow
unfolding ratio
returns-clause-narrow c few =
    let beta = c.args.beta in
    let most = le_over beta.num beta.den 65536 1 beta.positive one_pos (rw (← over_self beta) at few) in
    let exact = c.fine_start-one.ensures.exact (omega (arith, most, c.num.ensures.part, c.den.ensures.part)) in
    let x = c.by_digits.result in
    let all = c.by_digits.ensures.narrow ratio ratio_next exact (c.any_start.ensures.within exact) in
    omega (
      arith,
      all.ratio,
      mul-le-mul_left x.low ratio_last,
      x.order,
      x.top,
      two_le 63 x.exponent x.least,
    )
