-- The means of a unit's claims.
use Rattle.dl_exact.specs.Fraction.{Fraction, whole, ◌-ℚ◌, ◌*ℚ◌}
use Rattle.dl_plan.specs.declared.plan.Unit.{Unit as UnitOfPlan}
use Rattle.dl_plan.specs.Severity.{mean_amount, pairs_of, probability_of}
use Rattle.dl_plan.specs.Count.{expected_count}

-- the mean of the sum of a unit's claims, in buckets: the expected count times the mean amount
abbrev pub declared_mean : UnitOfPlan → Fraction
declared_mean u = expected_count u.freq *ℚ mean_amount (pairs_of u.sev)

-- the expected number of claims above 0: the expected count times the probability of a positive
-- amount
abbrev pub thinned_mean : UnitOfPlan → Fraction
thinned_mean u = expected_count u.freq *ℚ (whole 1 -ℚ probability_of u.sev 0)
