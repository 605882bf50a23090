-- From the definition.
use Rattle.dl_plan.proofs.Horizons.{horizon_one, horizon_edges}
use Rattle.dl_plan.proofs.law.law_horizon.Goals as goal

pub returns-clause-from_one : goal.returns-clause-from_one
returns-clause-from_one c = horizon_one

pub returns-clause-edges : goal.returns-clause-edges
returns-clause-edges c = horizon_edges
