use Rattle.dl_shares.proofs.Common.{◌^◌, length, low_at, high_at, pow_pos}
use Rattle.dl_shares.proofs.BesideJoint.{joint_ends}
use Rattle.dl_shares.proofs.laws.law_beside.Goals as goal

pub returns : goal.returns
returns g c us i units there here beside x inside =
    let unit = c.args.from.now.unit.now in
    let others = c.args.from.now.others.now in
    joint_ends us (2 ^ g.row.B) (length unit) (length others) (low_at unit) (high_at unit) (low_at others)
    (high_at others) i x units (pow_pos g.row.B) there inside (rw c.args.from.now.alike inside) here beside
