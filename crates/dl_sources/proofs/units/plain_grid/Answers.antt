use Rattle.dl_sources.proofs.Common.{IfOk-weaker}
use Rattle.dl_sources.proofs.UnitLaws.{plain_grid}
use Rattle.dl_sources.proofs.ZeroLaws.{same_grid}
use Rattle.dl_sources.proofs.units.plain_grid.Goals as goal

pub returns : goal.returns
returns g c =
    IfOk-weaker c.claims_grid.result _ _ (λ claims sum.
    same_grid c.requires.zero (plain_grid claims c.requires.on.valid sum c.requires.clause)) c.claims_grid.ensures
