use Rattle.dl_shares.proofs.CommonJoint.{common_exact}
use Rattle.dl_shares.proofs.laws.law_raised.Goals as goal

pub returns : goal.returns
returns g c plan r i raised shares there here is encloses x inside =
    let from = c.args.from.now in
    common_exact from.grid.now plan i x raised from.unit.now inside r shares there here is encloses
