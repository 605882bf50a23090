-- The sums of the units so far.
use Rattle.dl_rules.proofs.Common.{◌≡◌, map, take, Some, whole, UnitOfPlan, expected_count, thinned_mean, running_sum}
use Rattle.dl_rules.proofs.factor.claim_sums.Given as goal

abbrev pub invariant-units : goal.invariant-units
invariant-units l = record {
  expected : running_sum (whole 0) (map (λ (u : UnitOfPlan). expected_count u.freq) (take l.unit-index l.units)) ≡ Some l.expected;
  above : running_sum (whole 0) (map thinned_mean (take l.unit-index l.units)) ≡ Some l.above;
}
