use Rattle.dl_unit.proofs.Common.{◌^◌, arith, pow_pos, pw_rises, fixed, compound_proper, probability_of, within_one, fixed_claims}
use Rattle.dl_unit.proofs.Families.{grid_same, narrow_by}
use Rattle.dl_unit.proofs.finite.fixed_claims.Goals as goal

pub returns : goal.returns
returns g c =
    let e = c.power.ensures in
    let claim = c.in_ok-claim.ensures in
    narrow_by c.power.result _ _ _ (λ grid copies.
    grid_same grid _ _ (fixed_claims (probability_of c.args.sev.now) c.args.claims)
    (copies _ (compound_proper (fixed 1) (probability_of c.args.sev.now) (within_one c.args.sev.now)) claim.encloses))
    (pw_rises (2 ^ g.row.B) c.args.cells c.args.cells _ _ c.args.claims (pow_pos g.row.B) (omega arith) claim.spread)
    e.cells e.encloses e.spread
