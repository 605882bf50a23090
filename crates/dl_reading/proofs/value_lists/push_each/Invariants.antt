-- The numbers so far.
use Rattle.dl_reading.proofs.Common.{◌≡◌, ◌++◌, map, take}
use Rattle.dl_reading.proofs.value_lists.push_each.Given as goal

abbrev pub invariant-part : goal.invariant-part
invariant-part l = l.values.items ≡ l.fn.values.items ++ map (λ x. (x, l.span)) (take l.value-index l.part)
