use Rattle.dl_model.proofs.Common.{subst, sym, Holds, One, Mean, sum_over, declared_mean, declared_by, has_factor}
use Rattle.dl_model.proofs.PlanMeans.{mean_at_most, mean_with_change, unit_mean, units_mean}
use Rattle.dl_model.proofs.CommonPlans.{by_factor}
use Rattle.dl_model.proofs.CommonMeans.{shared_mean, shared_total}
use Rattle.dl_model.proofs.plans.law_plan_mean.Goals as goal

pub returns-clause-unit : goal.returns-clause-unit
returns-clause-unit c = unit_mean

pub returns-clause-most : goal.returns-clause-most
returns-clause-most c = mean_at_most

pub returns-clause-changed : goal.returns-clause-changed
returns-clause-changed c = mean_with_change

pub returns-clause-total : goal.returns-clause-total
returns-clause-total c plan l h valid each =
    by_factor (λ D. Holds (D Mean) (D One) (sum_over plan.units l) (sum_over plan.units h)) plan.common plan.units
    valid.common (units_mean plan.cells l h plan.units valid.units each)
    (λ r factor. shared_total plan.cells r l h plan.units valid.units factor each)

pub returns-clause-common : goal.returns-clause-common
returns-clause-common c plan r shares =
    let m = sum_over plan.units declared_mean in
    subst (λ o. Holds (declared_by o plan.units Mean) (declared_by o plan.units One) m m) (sym shares.shape)
    (shared_mean plan.units r (has_factor plan r shares))
