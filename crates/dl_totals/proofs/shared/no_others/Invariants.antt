use Rattle.dl_totals.proofs.Common.{◌≡◌, None, replicate}
use Rattle.dl_totals.proofs.shared.no_others.Given as goal

abbrev pub invariant-loop : goal.invariant-loop
invariant-loop g l = l.others.items ≡ replicate l.counter None
