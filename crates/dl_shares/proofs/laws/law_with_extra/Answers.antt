use Rattle.dl_shares.proofs.GammaJoint.{gamma_exact}
use Rattle.dl_shares.proofs.ClaimCounts.{counted}
use Rattle.dl_shares.proofs.laws.law_with_extra.Goals as goal

pub returns : goal.returns
returns g c us i extra units there here is encloses x inside =
    let from = c.args.from.now in
    gamma_exact from.unit.now extra c.requires.gamma (counted from.unit.now.freq from.fit.count) is from.grid.now us i x
    units there here encloses inside
