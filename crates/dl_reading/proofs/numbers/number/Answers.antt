-- A numeral of the text is one that is read.
use Rattle.dl_reading.proofs.Common.{arith, whole_num, whole_den, false_from_ne_true, numeral_small}
use Rattle.dl_reading.proofs.numbers.number.Goals as goal

pub numeral-requires-clause-spelled : goal.numeral-requires-clause-spelled
numeral-requires-clause-spelled c = rw c.as_slice.ensures c.requires

pub returns-in-Ok-clause-small : goal.returns-in-Ok-clause-small
returns-in-Ok-clause-small c =
    let s = numeral_small 9 _ (false_from_ne_true _ (λ yes. absurd (cc (c.in-Ok.ensures.bad.1 yes)))) in
    rw (c.clean.ensures, c.in-Ok.ensures.value) (record { num = s.num; den = s.den })

pub returns-in-Err-clause-small : goal.returns-in-Err-clause-small
returns-in-Err-clause-small c = rw c.whole.ensures (record { num = omega (arith, whole_num 1); den = omega (arith, whole_den 1) })
