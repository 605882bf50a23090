use Rattle.dl_unit.proofs.Common.{◌^◌, arith, pow_pos, pw_rises, binomial, compound_proper, probability_of, within_one, trials}
use Rattle.dl_unit.proofs.Families.{grid_same, narrow_by}
use Rattle.dl_unit.proofs.finite.binomial_claims.Goals as goal

pub returns : goal.returns
returns g c =
    let e = c.power.ensures in
    let trial = c.in_ok-trial.ensures in
    let f = probability_of c.args.sev.now in
    let q = c.args.q in
    narrow_by c.power.result _ _ _ (λ grid copies.
    grid_same grid _ _ (trials f c.args.trials q.num q.den q.positive)
    (copies _ (compound_proper (binomial 1 q.num q.den) f (within_one c.args.sev.now)) trial.encloses))
    (pw_rises (2 ^ g.row.B) c.args.cells c.args.cells _ _ c.args.trials (pow_pos g.row.B) (omega arith) trial.spread)
    e.cells e.encloses e.spread
