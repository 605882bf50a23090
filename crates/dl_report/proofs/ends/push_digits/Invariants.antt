use Rattle.dl_report.proofs.Common.{◌≡◌, ◌++◌, ◌-◌, last_digits}
use Rattle.dl_report.proofs.ends.push_digits.Given as goal

abbrev pub invariant-loop-done : goal.invariant-loop-done
invariant-loop-done l = l.text.items ++ last_digits (l.count - l.done) l.number
    ≡ l.initial.text.items ++ last_digits l.count l.number
