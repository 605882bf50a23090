use Rattle.dl_bytes.proofs.Common.{◌≡◌, take, digits_value}
use Rattle.dl_bytes.proofs.digits.value_of.Given as goal

abbrev pub invariant-loop-i : goal.invariant-loop-i
invariant-loop-i l = l.value ≡ digits_value 10 (take l.i l.digits)
