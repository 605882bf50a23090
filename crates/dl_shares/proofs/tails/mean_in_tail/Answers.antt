use Rattle.dl_shares.proofs.Common.{◌∙◌, ◌+◌, ◌^◌, arith, ap₂, pow_pos, cells_fit, part_down, part_up}
use Rattle.dl_shares.proofs.WeightedEnds.{room_of}
use Rattle.dl_shares.proofs.TailBrackets.{low_is, high_is}
use Rattle.dl_shares.proofs.TailParts.{part_fits, up_most}
use Rattle.dl_shares.proofs.tails.mean_in_tail.Goals as goal

pub tail_part-part-requires : goal.tail_part-part-requires
tail_part-part-requires g c = (
  omega arith,
  part_fits (2 ^ g.row.B) c.args.joints.x _ _ (pow_pos g.row.B)
      (room_of c.args.total.now c.args.joints.x c.cells.ensures.grid c.requires.inside) c.requires.joint (omega arith),
)

pub add-requires : goal.add-requires
add-requires g c = (
  omega arith,
  omega (
    arith,
    up_most c.args.joints.at.hi c.above.result.hi c.at.result.lo,
    cells_fit c.args.total.now c.args.joints.x c.cells.ensures.grid (omega arith),
  ),
)

pub returns-clause-low : goal.returns-clause-low
returns-clause-low g c = c.add.ensures.low ∙ ap₂ (λ a b. a + b) c.sub_floor0.ensures.low (c.tail_part-part.ensures.low
    ∙ ap₂ (part_down c.args.joints.at.lo) (low_is c.args.total.now c.args.p c.args.joints.x c.cdf.result.lo _
    c.cells.ensures.grid c.cdf.ensures.low c.above.ensures.low) c.at.ensures.high)

pub returns-clause-high : goal.returns-clause-high
returns-clause-high g c = c.add.ensures.high ∙ ap₂ (λ a b. a + b) c.sub_floor0.ensures.high
    (c.tail_part-part.ensures.high ∙ ap₂ (part_up c.args.joints.at.hi) (high_is c.args.total.now c.args.p c.args.joints.x c.cdf.result.hi _
    c.cdf.ensures.high c.above.ensures.high) c.at.ensures.low)

pub returns-clause-small : goal.returns-clause-small
returns-clause-small g c = omega (arith, up_most c.args.joints.at.hi c.above.result.hi c.at.result.lo)
