use Rattle.dl_start.proofs.Common.{◌≡◌, ◌+◌, ◌-◌, ◌*◌, ◌/◌, ◌^◌, ◌<◌, arith, div-mul-le_self, lt-div-mul-add}
use Rattle.dl_start.proofs.Products.{two_pos}
use Rattle.dl_start.proofs.Beginnings.{geometric_holds}
use Rattle.dl_start.proofs.first.geometric_start.Goals as goal

pub returns-clause-holds : goal.returns-clause-holds
returns-clause-holds c =
    let A = c.from-all.result in
    let all : A ≡ c.args.num + c.args.rest = c.from-all.ensures in
    let rest : c.from-part.result ≡ c.args.rest = c.from-part.ensures in
    let part = c.from-part.result * 9223372036854775808 in
    let Ap : 0 < A = omega arith in
    geometric_holds c.args.num c.args.rest (part / A) ((part + (A - 1)) / A) (2 ^ 63) c.requires.positive (two_pos 63)
    (rw (← all) (omega (arith, div-mul-le_self part A)))
    (rw (← all) (omega (arith, lt-div-mul-add {a = part + (A - 1)} {b = A} Ap)))
