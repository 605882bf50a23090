use Rattle.dl_model.proofs.UnitLosses.{unit_declared_loss}
use Rattle.dl_model.proofs.units.law_unit.Goals as goal

pub returns-clause-declared : goal.returns-clause-declared
returns-clause-declared c = unit_declared_loss
