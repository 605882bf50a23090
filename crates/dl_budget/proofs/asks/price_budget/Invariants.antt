use Rattle.dl_budget.proofs.Common.{◌≡◌, ◌+◌, ◌*◌, ◌^◌, ◌≤◌, take, sum_by, up, whole, ◌*ℚ◌, tail_budget}
use Rattle.dl_budget.proofs.asks.price_budget.Given as goal

abbrev pub invariant-terms : goal.invariant-terms
invariant-terms g l = record {
  so_far : l.sum ≡ sum_by (λ term. up (term.weight *ℚ whole (tail_budget (2 ^ g.row.B) l.plan term.p)) + 2)
      (take l.term-index l.terms);
  small : l.sum ≤ l.term-index * 2 ^ 118;
}
