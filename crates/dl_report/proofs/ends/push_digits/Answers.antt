use Rattle.dl_report.proofs.Common.{◌-◌, arith, one-le-pow}
use Rattle.std.proofs.lemmas.List.{append_assoc}
use Rattle.dl_report.proofs.Digits.{next_digit}
use Rattle.dl_report.proofs.ends.push_digits.Goals as goal

pub digit-requires : goal.digit-requires
digit-requires c = omega (arith, c.pow.ensures, one-le-pow (c.args.count - 1 - c.loop-done.done) 10 (omega arith))

pub loop-done-preserved : goal.loop-done-preserved
loop-done-preserved c =
    rw (c.in_ok-push.ensures.items, c.digit.ensures, c.pow.ensures, append_assoc)
    (rw (next_digit c.args.number c.args.count c.loop-done.done c.loop-done-test.true) at c.loop-done.invariant)
