-- Valid plans whose units share a factor.
use Rattle.std.specs.Prelude.{◌≡◌, Some, None}
use Rattle.dl_exact.specs.Fraction.{Fraction}
use Rattle.dl_plan.specs.declared.plan.Plan.{Plan}
use Rattle.dl_plan.specs.Valid.{IsValid}

-- the same units without a common factor
abbrev pub independent : Plan → Plan
independent plan = record {
  bs = plan.bs;
  cells = plan.cells;
  units = plan.units;
  common = None;
}

-- a valid plan whose units share a factor of shape r
pub record SharesFactor (plan : Plan) (r : Fraction) : Type 0 where
  pub shape : plan.common ≡ Some r
  pub valid : IsValid plan
