use Rattle.dl_measures.proofs.Common.{◌-◌, ◌<◌, ◌≤◌, arith}
use Rattle.dl_measures.proofs.TailLaws.{rest_above, product_most, quotient_fits}
use Rattle.dl_measures.proofs.tails.over_the_rest.Goals as goal

pub scale-requires : goal.scale-requires
scale-requires g c =
    let few : c.den.result ≤ 1000000000 = omega arith in
    let left : 0 < c.den-2.result - c.num.result = omega (arith, rest_above c.args.p c.requires.below_one) in
    let product = product_most c.args.excess.hi c.den.result c.requires.excess few in
    let quotient = quotient_fits c.args.excess.hi c.den.result _ left c.requires.excess few in
    (omega arith, (left, (omega arith, omega arith)))

pub returns-clause-low : goal.returns-clause-low
returns-clause-low g c = cc

pub returns-clause-high : goal.returns-clause-high
returns-clause-high g c = cc
