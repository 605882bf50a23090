use Rattle.dl_cert.proofs.Common.{same_cells_enclosed}
use Rattle.dl_cert.proofs.Targets.{plan_made_up}
use Rattle.dl_cert.proofs.laws.law_target.Goals as goal

pub returns-clause-values : goal.returns-clause-values
returns-clause-values c = plan_made_up

pub returns-clause-encloses : goal.returns-clause-encloses
returns-clause-encloses c plan S K lo hi valid covered =
    same_cells_enclosed S K lo hi _ _ (plan_made_up plan valid covered)
