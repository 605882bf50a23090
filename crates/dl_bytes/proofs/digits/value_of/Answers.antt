use Rattle.dl_bytes.proofs.Common.{◌+◌, ◌<◌, arith, length}
use Rattle.dl_bytes.proofs.DigitLaws.{one_more_digit, value_fits}
use Rattle.dl_bytes.proofs.digits.value_of.Goals as goal

pub overflow_mul-value : goal.overflow_mul-value
overflow_mul-value c =
    omega (arith, c.loop-i.invariant, value_fits c.args.digits.now c.loop-i.i c.requires.digits c.requires.few)

pub loop-i-preserved : goal.loop-i-preserved
loop-i-preserved c =
    let inside : c.loop-i.i < length c.args.digits.now = omega (arith, c.loop-i-test.true) in
    omega (arith, c.loop-i.invariant, c.from.ensures, one_more_digit c.args.digits.now c.loop-i.i c.requires.digits inside)

pub overflow_add-value : goal.overflow_add-value
overflow_add-value c =
    let inside : c.loop-i.i < length c.args.digits.now = omega (arith, c.loop-i-test.true) in
    omega (
      arith,
      one_more_digit c.args.digits.now c.loop-i.i c.requires.digits inside,
      value_fits c.args.digits.now (c.loop-i.i + 1) c.requires.digits c.requires.few,
    )
