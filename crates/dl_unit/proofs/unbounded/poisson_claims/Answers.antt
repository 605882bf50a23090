use Rattle.dl_unit.proofs.Common.{◌^◌, arith, pow_pos, IfOk-weaker, whole, ◌/ℚ◌, spread, poisson, compound_proper, probability_of, within_one, one_shl}
use Rattle.dl_unit.proofs.Widths.{poisson_within}
use Rattle.dl_unit.proofs.unbounded.poisson_claims.Goals as goal

pub returns-clause-encloses : goal.returns-clause-encloses
returns-clause-encloses g c =
    let halved = c.halvings-halvings in
    IfOk-weaker c.power.result _ _ (λ grid copies.
    rw (one_shl halved.result 32 (omega arith), halved.ensures.value) at
    (copies _ (compound_proper (poisson (c.args.mean /ℚ whole (2 ^ halved.result))) (probability_of c.args.sev.now)
    (within_one c.args.sev.now)) c.in_ok-base.ensures.encloses)) c.power.ensures.encloses

pub returns-clause-spread : goal.returns-clause-spread
returns-clause-spread g c =
    let halved = c.halvings-halvings in
    IfOk-weaker c.power.result _ _ (λ grid narrow.
    poisson_within (2 ^ g.row.B) c.args.cells (spread c.in_ok-base.base) _ _ halved.result c.args.mean (pow_pos g.row.B)
    (one_shl halved.result 32 (omega arith)) halved.ensures.value c.in_ok-base.ensures.spread narrow)
    c.power.ensures.spread
