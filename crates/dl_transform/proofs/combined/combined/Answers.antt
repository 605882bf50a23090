use Rattle.dl_transform.proofs.Common.{◌≡◌, ◌+◌, ◌-◌, ◌*◌, ◌<◌, ◌≤◌, ◌^◌, arith, mul-le-mul}
use Rattle.dl_transform.proofs.Residues.{same_trans}
use Rattle.dl_transform.proofs.Wholes.{from_two}
use Rattle.dl_transform.proofs.combined.combined.Goals as goal

pub returns-clause-is : goal.returns-clause-is
returns-clause-is c n big first second =
    let p1 = c.args.p1 in
    let p2 = c.args.p2 in
    let d = c.args.r2 + p2 - c.args.r1 in
    let pos : 0 < p2 = omega arith in
    let one : p2 ≡ 1 * p2 = omega arith in
    let e : d + c.args.r1 ≡ c.args.r2 + p2 = omega (arith, c.requires.first_small, c.requires.order) in
    from_two p1 p2 c.args.w n c.args.r1 c.args.r2 d c.lowered-v.result pos big first c.requires.first_small second
    c.requires.inverse e
    (same_trans (c.lowered-v.ensures.same p2 1 one) c.times.ensures.same)
    (c.lowered-v.ensures.small (omega (arith, c.times.ensures.small)))

pub returns-clause-small : goal.returns-clause-small
returns-clause-small c =
    let v = c.lowered-v.ensures.small (omega (arith, c.times.ensures.small)) in
    let first : c.args.p1 ≤ 2 ^ 62 - 1 = omega (arith, c.requires.order, c.requires.modulus.small) in
    let second : c.lowered-v.result ≤ 2 ^ 62 - 1 = omega (arith, v, c.requires.modulus.small) in
    omega (arith, mul-le-mul first second, c.requires.first_small, first)
