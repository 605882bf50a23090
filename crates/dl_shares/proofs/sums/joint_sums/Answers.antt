use Rattle.dl_shares.proofs.Common.{◌^◌, ◌<◌, ◌∙◌, arith, sym, subst, scale_of, one_fits, low_at, high_at, below_same, low_most}
use Rattle.dl_shares.proofs.WeightedEnds.{high_mass}
use Rattle.dl_shares.proofs.PairSums.{listed_to}
use Rattle.dl_shares.proofs.JointSums.{sums_order, high_room, high_fits, sums_hold, sums_narrow}
use Rattle.dl_shares.proofs.sums.joint_sums.Goals as goal

pub weighted_sum-low-requires-clause-mass : goal.weighted_sum-low-requires-clause-mass
weighted_sum-low-requires-clause-mass g c =
    let mass = low_most c.args.others.now c.args.q c.lows-2.ensures.grid in
    let one = one_fits g.row.B (scale_of c.args.unit.now c.lows.ensures.grid.some).1 in
    subst (λ t. t < 2 ^ 64) (sym (below_same c.args.q _ (low_at c.args.others.now) (λ z b. c.lows-2.ensures.each z)))
    (omega arith)

pub weighted_sum-high-requires-clause-mass : goal.weighted_sum-high-requires-clause-mass
weighted_sum-high-requires-clause-mass g c =
    let mass = high_mass c.args.others.now c.args.q c.lows-2.ensures.grid c.requires.others_narrow in
    let one = one_fits g.row.B (scale_of c.args.unit.now c.lows.ensures.grid.some).1 in
    subst (λ t. t < 2 ^ 64) (sym (below_same c.args.q _ (high_at c.args.others.now) (λ z b. c.highs-2.ensures.each z)))
    (omega arith)

pub weighted_sum-low-requires-clause-fits : goal.weighted_sum-low-requires-clause-fits
weighted_sum-low-requires-clause-fits g c =
    let unit = c.args.unit.now in
    let others = c.args.others.now in
    let room = high_room unit others c.args.q c.lows.ensures.grid c.lows-2.ensures.grid c.requires.in_unit
    c.requires.unit_narrow c.requires.others_narrow in
    subst (λ t. t < 2 ^ 128)
    (sym (listed_to _ _ (low_at unit) (low_at others) c.args.q c.lows.ensures.each c.lows-2.ensures.each))
    (omega (arith, sums_order unit others c.args.q, room))

pub weighted_sum-high-requires-clause-fits : goal.weighted_sum-high-requires-clause-fits
weighted_sum-high-requires-clause-fits g c =
    let unit = c.args.unit.now in
    let others = c.args.others.now in
    subst (λ t. t < 2 ^ 128)
    (sym (listed_to _ _ (high_at unit) (high_at others) c.args.q c.highs.ensures.each c.highs-2.ensures.each))
    (high_room unit others c.args.q c.lows.ensures.grid c.lows-2.ensures.grid c.requires.in_unit
    c.requires.unit_narrow c.requires.others_narrow)

pub outward-requires : goal.outward-requires
outward-requires g c =
    let unit = c.args.unit.now in
    let others = c.args.others.now in
    let scale = scale_of unit c.lows.ensures.grid.some in
    let low = c.weighted_sum-low.ensures
    ∙ listed_to _ _ (low_at unit) (low_at others) c.args.q c.lows.ensures.each c.lows-2.ensures.each in
    let high = c.weighted_sum-high.ensures
    ∙ listed_to _ _ (high_at unit) (high_at others) c.args.q c.highs.ensures.each c.highs-2.ensures.each in
    let fits = high_fits unit others c.args.q c.lows.ensures.grid c.lows-2.ensures.grid c.requires.in_unit
    c.requires.unit_narrow c.requires.others_narrow in
    rw (low, high) (omega arith, (scale.0, (scale.1, (sums_order unit others c.args.q, fits))))

pub returns : goal.returns
returns g c =
    let unit = c.args.unit.now in
    let others = c.args.others.now in
    let low = c.weighted_sum-low.ensures
    ∙ listed_to _ _ (low_at unit) (low_at others) c.args.q c.lows.ensures.each c.lows-2.ensures.each in
    let high = c.weighted_sum-high.ensures
    ∙ listed_to _ _ (high_at unit) (high_at others) c.args.q c.highs.ensures.each c.highs-2.ensures.each in
    rw (c.outward.ensures.low, c.outward.ensures.high, low, high) (record {
      holds = sums_hold unit others c.args.q;
      width = sums_narrow unit others c.args.q c.lows.ensures.grid c.lows-2.ensures.grid c.requires.in_unit;
    })
