use Rattle.dl_outcomes.proofs.Common.{◌-◌, arith, one_fits, part_within}
use Rattle.dl_outcomes.proofs.MeanSizes.{most_small, part_le, share_fits, share_width, part_narrow}
use Rattle.dl_outcomes.proofs.MeanEnds.{part_holds}
use Rattle.dl_outcomes.proofs.clause_mean.part_of.Goals as goal

pub scale-requires : goal.scale-requires
scale-requires g c =
    let small = most_small c.args.layer.now.limit _ c.args.claims.hi c.layer_mean-mean.result.hi c.requires.near
    (one_fits _ c.args.claims.scale_below) c.requires.small c.layer_mean-mean.ensures.most in
    let within = part_le c.args.layer.now.share c.num.ensures.part c.den.ensures.part c.requires.share in
    let fits = share_fits c.layer_mean-mean.result.hi _ _ small within (omega arith) in
    let less = part_within c.layer_mean-mean.result.hi c.num.result c.den.result c.den.ensures.positive within in
    (omega arith, (c.den.ensures.positive, (omega arith, omega arith)))

pub returns-clause-holds : goal.returns-clause-holds
returns-clause-holds g c =
    part_holds c.args.grid.now c.args.layer.now c.args.claims c.layer_mean-mean.result c.scale.result c.num.result
    c.den.result c.num.ensures.part c.den.ensures.part c.scale.ensures.holds
    (λ us d e. c.layer_mean-mean.ensures.holds us d (rw c.walked-walked.ensures e))

pub returns-clause-width : goal.returns-clause-width
returns-clause-width g c =
    let within = part_le c.args.layer.now.share c.num.ensures.part c.den.ensures.part c.requires.share in
    let wide = share_width c.layer_mean-mean.result.lo _ _ _ c.layer_mean-mean.result.ordered within
    c.den.ensures.positive in
    let layer = rw c.walked-walked.ensures at c.layer_mean-mean.ensures.width in
    part_narrow c.args.layer.now.limit c.args.layer.now.attach (c.args.claims.hi - c.args.claims.lo) _ _ (omega arith)
    (omega (arith, layer))

pub returns-clause-small : goal.returns-clause-small
returns-clause-small g c =
    let within = part_le c.args.layer.now.share c.num.ensures.part c.den.ensures.part c.requires.share in
    let less = part_within c.layer_mean-mean.result.hi _ _ c.den.ensures.positive within in omega arith
