-- The units of a plan as units under a common factor, and one Poisson unit in the place of some.
use Rattle.std.specs.Prelude.{ℕ, ◌≡◌, List, map, All}
use Rattle.dl_exact.specs.Fraction.{whole, ◌<ℚ◌}
use Rattle.dl_plan.specs.declared.plan.Unit.{Unit as UnitOfPlan}
use Rattle.dl_plan.specs.Prelude.{greatest, probability_of, expected_count, CanShare, expected_of}
use Rattle.dl_model.specs.CommonFactor.{PoissonUnit, pooled_severity}

-- a unit of a plan with a Poisson count, as a unit under a common factor
abbrev pub poisson_unit : UnitOfPlan → PoissonUnit
poisson_unit u = record {
  mean = expected_count u.freq;
  severity = probability_of u.sev;
  most = greatest u.sev.items;
}

-- the same of each unit
abbrev pub poisson_units : List UnitOfPlan → List PoissonUnit
poisson_units units = map poisson_unit units

-- One Poisson unit in the place of independent ones, all without an aggregate clause and with no
-- changed probability of no claim: it expects all of their claims, more than 0, and its severity
-- mixes theirs by their parts of these.
pub record IsPoissonSum (units : List UnitOfPlan) (made : UnitOfPlan) : Type 0 where
  pub each : All CanShare units
  pub some : whole 0 <ℚ expected_of units
  pub alone : CanShare made
  pub claims : expected_count made.freq ≡ expected_of units
  pub severity : (x : ℕ) → probability_of made.sev x ≡ pooled_severity (poisson_units units) x
