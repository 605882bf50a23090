use Rattle.dl_shares.proofs.PoissonJoint.{poisson_exact}
use Rattle.dl_shares.proofs.laws.law_of_total.Goals as goal

pub returns : goal.returns
returns g c us i units there here encloses x inside =
    poisson_exact us i x units c.args.from.now.grid.now c.args.from.now.unit.now c.requires.poisson there here encloses inside
