use Rattle.dl_unit.proofs.Common.{◌^◌, arith, rules, subst, pow_pos, fun_ext, compound, GridEncloses, probability_of, probability_is, total_pos, within_one, greatest, mixed_rises}
use Rattle.dl_unit.proofs.Families.{narrow_by}
use Rattle.dl_unit.proofs.finite.listed_claims.Goals as goal

pub mix_counts-requires : goal.mix_counts-requires
mix_counts-requires g c =
    search (rules, c.requires.weighted, total_pos c.args.counts.now c.args.total c.requires.weighted)

pub returns : goal.returns
returns g c =
    let e = c.mix_counts.ensures in
    let claim = c.in_ok-claim.ensures in
    let f = probability_of c.args.sev.now in
    narrow_by c.mix_counts.result _ _ _ (λ grid mixed.
    subst (λ w. GridEncloses grid (compound w f))
    (fun_ext (probability_is c.args.counts.now c.args.total c.requires.weighted.sum))
    (mixed f (within_one c.args.sev.now) claim.encloses))
    (mixed_rises (2 ^ g.row.B) c.args.cells c.args.cells _ _ (greatest c.args.counts.now) (pow_pos g.row.B) (omega arith) claim.spread)
    e.cells e.encloses e.spread
