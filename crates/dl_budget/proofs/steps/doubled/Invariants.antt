use Rattle.dl_budget.proofs.Common.{most_claims_budget, ◌≡◌, ◌*◌, ◌^◌, ◌≤◌, power_spread, rounded_spread, IsSizeWithin}
use Rattle.dl_budget.proofs.steps.doubled.Given as goal

abbrev pub invariant-loop-step : goal.invariant-loop-step
invariant-loop-step g l = record {
  inside : l._step ≤ l.times;
  value : l.spread ≡ power_spread (2 ^ g.row.B) l.cells l.base (2 ^ l._step);
  size : IsSizeWithin (2 ^ g.row.B) (2 ^ l._step * rounded_spread l.cells 0 l.base) (rounded_spread l.cells 0 l.spread);
  small : l.spread ≤ most_claims_budget;
}
