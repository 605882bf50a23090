-- The values of the steps so far stand behind the others.
use Rattle.dl_severity.proofs.Common.{◌≡◌, ◌++◌, map, range_with_len, value_at}
use Rattle.dl_severity.proofs.expand_list.push_steps.Given as goal

abbrev pub invariant-steps : goal.invariant-steps
invariant-steps l = l.values.items ≡ l.initial.values.items ++ map (value_at l.fn.range) (range_with_len 0 l.k)
