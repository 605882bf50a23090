-- Sorted by a key that is the amount.
use Rattle.dl_severity.proofs.Common.{Item, rules, IsNonDecreasingBy-from_sort_by_key}
use Rattle.dl_severity.proofs.gather.sorted.Goals as goal

pub returns-clause-order : goal.returns-clause-order
returns-clause-order c = IsNonDecreasingBy-from_sort_by_key
    (λ (i : Item). i.amount) _ c.sort_unstable_by_key.ensures.sorted (λ a r q k. search rules)
