use Rattle.dl_budget.proofs.Common.{most_claims_budget, ◌≡◌, ◌+◌, ◌*◌, ◌^◌, ◌≤◌, mixed_spread, rounded_spread, IsSizeWithin}
use Rattle.dl_budget.proofs.steps.listed.Given as goal

abbrev pub invariant-loop-step : goal.invariant-loop-step
invariant-loop-step g l = record {
  inside : l._step ≤ l.greatest;
  value : l.spread ≡ mixed_spread (2 ^ g.row.B) l.cells l.base l._step;
  size : IsSizeWithin (2 ^ g.row.B) (rounded_spread l.cells 2 1 + l._step * rounded_spread l.cells 2 l.base)
      (rounded_spread l.cells 2 l.spread);
  small : l.spread ≤ most_claims_budget;
}
