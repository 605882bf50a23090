use Rattle.dl_iv.proofs.Common.{le_trans, mul-le-mul_right, pow_pos, arith}
use Rattle.dl_iv.proofs.Conditions.{part_fits}
use Rattle.dl_iv.proofs.Rounding.{floor_le_ceiling}
use Rattle.dl_iv.proofs.Operations.{scale_low, scale_high}
use Rattle.dl_iv.proofs.interval.Iv.part.Goals as goal

pub rounded_by_parts-lo-requires-clause-low_fits : goal.rounded_by_parts-lo-requires-clause-low_fits
rounded_by_parts-lo-requires-clause-low_fits g c =
    rw (c.from-num.ensures, c.from-den.ensures)
    (part_fits _ _ _ _ c.requires.positive c.requires.part (le_trans c.args.self.ordered c.args.self.in_range)).0

pub rounded_by_parts-lo-requires-clause-high_fits : goal.rounded_by_parts-lo-requires-clause-high_fits
rounded_by_parts-lo-requires-clause-high_fits g c =
    rw (c.from-num.ensures, c.from-den.ensures)
    (part_fits _ _ _ _ c.requires.positive c.requires.part c.args.self.in_range).1

pub invariant_of-result-clause-ordered : goal.invariant_of-result-clause-ordered
invariant_of-result-clause-ordered g c =
    rw (c.rounded_by_parts-lo.ensures.low, c.rounded_by_parts-lo.ensures.high, c.from-den.ensures)
    (floor_le_ceiling _ _ _ _ c.requires.positive (omega arith) (mul-le-mul_right _ c.args.self.ordered))

pub invariant_of-result-clause-in_range : goal.invariant_of-result-clause-in_range
invariant_of-result-clause-in_range g c =
    rw (c.rounded_by_parts-lo.ensures.high, c.from-num.ensures, c.from-den.ensures)
    (part_fits _ _ _ _ c.requires.positive c.requires.part c.args.self.in_range).1

pub returns-clause-holds : goal.returns-clause-holds
returns-clause-holds g c x p = record {
  low = rw (c.rounded_by_parts-lo.ensures.low, c.from-num.ensures, c.from-den.ensures)
      (scale_low _ (pow_pos g.row.B) _ _ _ x c.requires.positive p.low);
  high = rw (c.rounded_by_parts-lo.ensures.high, c.from-num.ensures, c.from-den.ensures)
      (scale_high _ (pow_pos g.row.B) _ _ _ x c.requires.positive p.high);
}
