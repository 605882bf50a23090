use Rattle.dl_shares.proofs.Common.{◌^◌, ◌<◌, ◌∙◌, arith, refl, sym, subst, scale_of, low_at, high_at}
use Rattle.dl_shares.proofs.Nested.{listed}
use Rattle.dl_shares.proofs.WeightedEnds.{sums_order, high_room, end_divisible, end_fits, end_top, joint_width}
use Rattle.dl_shares.proofs.beside.joint_mean.Goals as goal

pub weighted_sum-low-requires-clause-fits : goal.weighted_sum-low-requires-clause-fits
weighted_sum-low-requires-clause-fits g c =
    let unit = c.args.unit.now in
    let others = c.args.others.now in
    let room = high_room unit others c.args.x c.lows.ensures.grid c.lows-2.ensures.grid c.requires.unit_narrow
    c.requires.others_narrow c.requires.in_unit in
    subst (λ t. t < 2 ^ 128)
    (sym (listed _ _ (low_at unit) (low_at others) c.args.x c.lows.ensures.each c.lows-2.ensures.each))
    (omega (arith, sums_order unit others c.args.x, room))

pub weighted_sum-high-requires-clause-fits : goal.weighted_sum-high-requires-clause-fits
weighted_sum-high-requires-clause-fits g c =
    let unit = c.args.unit.now in
    let others = c.args.others.now in
    subst (λ t. t < 2 ^ 128)
    (sym (listed _ _ (high_at unit) (high_at others) c.args.x c.highs.ensures.each c.highs-2.ensures.each))
    (high_room unit others c.args.x c.lows.ensures.grid c.lows-2.ensures.grid c.requires.unit_narrow
    c.requires.others_narrow c.requires.in_unit)

pub outward-requires : goal.outward-requires
outward-requires g c =
    let unit = c.args.unit.now in
    let others = c.args.others.now in
    let scale = scale_of unit c.lows.ensures.grid.some in
    let low = c.weighted_sum-low.ensures
    ∙ listed _ _ (low_at unit) (low_at others) c.args.x c.lows.ensures.each c.lows-2.ensures.each in
    let high = c.weighted_sum-high.ensures
    ∙ listed _ _ (high_at unit) (high_at others) c.args.x c.highs.ensures.each c.highs-2.ensures.each in
    let fits = end_fits unit others c.args.x c.lows.ensures.grid c.lows-2.ensures.grid c.requires.unit_narrow
    c.requires.others_narrow c.requires.in_unit in
    rw (low, high) (omega arith, (scale.0, (scale.1, (sums_order unit others c.args.x, fits))))

pub returns : goal.returns
returns g c =
    let unit = c.args.unit.now in
    let others = c.args.others.now in
    let low = c.weighted_sum-low.ensures
    ∙ listed _ _ (low_at unit) (low_at others) c.args.x c.lows.ensures.each c.lows-2.ensures.each in
    let high = c.weighted_sum-high.ensures
    ∙ listed _ _ (high_at unit) (high_at others) c.args.x c.highs.ensures.each c.highs-2.ensures.each in
    let top = end_top unit others c.args.x c.lows.ensures.grid c.lows-2.ensures.grid c.requires.unit_narrow
    c.requires.others_narrow in
    rw (c.outward.ensures.low, c.outward.ensures.high, low, high) (record {
      low = refl;
      high = refl;
      width = joint_width unit others c.args.x c.lows.ensures.grid c.lows-2.ensures.grid c.requires.in_unit;
      small = top;
      divisible = λ room. end_divisible (2 ^ g.row.B) c.args.x _ top room;
    })
