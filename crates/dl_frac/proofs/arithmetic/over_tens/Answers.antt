-- What is left when no 2 and no 5 divides both.
use Rattle.dl_frac.proofs.Common.{◌^◌, ◌≤◌, ◌∙◌, arith, lowest_self, pow-le-pow_right}
use Rattle.std.proofs.Math.Nat.{one-le-pow}
use Rattle.dl_frac.proofs.Tens.{tens_lowest, tens_over}
use Rattle.dl_frac.proofs.arithmetic.over_tens.Goals as goal

pub without-num-requires-clause-positive : goal.without-num-requires-clause-positive
without-num-requires-clause-positive c = rw c.pow.ensures (one-le-pow c.args.places 10 (omega arith))

pub without-num-requires-2-clause-positive : goal.without-num-requires-2-clause-positive
without-num-requires-2-clause-positive c = c.without-num.ensures.cut.above

pub invariant_of-result : goal.invariant_of-result
invariant_of-result c = (
  c.without-num-2.ensures.cut.above,
  (
    tens_lowest c.args.places c.pow.ensures c.without-num.ensures.cut c.without-num.ensures.apart c.without-num-2.ensures.cut
        c.without-num-2.ensures.apart,
    tt,
  ),
)

pub invariant_of-result-2 : goal.invariant_of-result-2
invariant_of-result-2 c =
    let parts = tens_over c.args.places c.pow.ensures c.without-num.ensures.cut c.without-num-2.ensures.cut in
    let most : 10 ^ c.args.places ≤ 10 ^ 13 = pow-le-pow_right (omega arith) c.requires.places in
    (omega (arith, parts.1), omega (arith, parts.2, most))

pub returns : goal.returns
returns c =
    lowest_self _ _ _ _ ∙ (tens_over c.args.places c.pow.ensures c.without-num.ensures.cut c.without-num-2.ensures.cut).0
