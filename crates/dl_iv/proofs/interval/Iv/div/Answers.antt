use Rattle.dl_iv.proofs.Common.{arith, le_trans, mul-le-mul_right, pow_pos}
use Rattle.dl_iv.proofs.Conditions.{rest_fits}
use Rattle.dl_iv.proofs.Rounding.{floor_le_ceiling}
use Rattle.dl_iv.proofs.Operations.{div_low, div_high, above_zero}
use Rattle.dl_iv.proofs.interval.Iv.div.Goals as goal

pub rounded_by_parts-lo-requires : goal.rounded_by_parts-lo-requires
rounded_by_parts-lo-requires g c = rw c.units_of_one.ensures record {
  low_positive = omega (arith, c.requires.positive, c.args.o.ordered);
  high_positive = c.requires.positive;
  low_rest = rest_fits _ _ _ _ _ _ (omega (arith, c.requires.positive, c.args.o.ordered)) (omega arith)
      c.args.self.ordered c.requires.rest;
  high_rest = rest_fits _ _ _ _ _ _ c.requires.positive c.args.o.ordered (omega arith) c.requires.rest;
  low_fits = le_trans
      (floor_le_ceiling _ _ _ _ c.requires.positive c.args.o.ordered (mul-le-mul_right _ c.args.self.ordered))
      c.requires.fits;
  high_fits = c.requires.fits;
}

pub invariant_of-result-clause-ordered : goal.invariant_of-result-clause-ordered
invariant_of-result-clause-ordered g c =
    rw (c.rounded_by_parts-lo.ensures.low, c.rounded_by_parts-lo.ensures.high)
    (floor_le_ceiling _ _ _ _ c.requires.positive c.args.o.ordered (mul-le-mul_right _ c.args.self.ordered))

pub invariant_of-result-clause-in_range : goal.invariant_of-result-clause-in_range
invariant_of-result-clause-in_range g c =
    rw (c.rounded_by_parts-lo.ensures.high, c.units_of_one.ensures) c.requires.fits

pub returns-clause-holds : goal.returns-clause-holds
returns-clause-holds g c x y p q =
    let pos = pow_pos g.row.B in
    record {
      low = rw (c.rounded_by_parts-lo.ensures.low, c.units_of_one.ensures)
          (div_low _ pos _ _ x y (omega arith) (above_zero _ pos _ y c.requires.positive q.low) p.low q.high);
      high = rw (c.rounded_by_parts-lo.ensures.high, c.units_of_one.ensures)
          (div_high _ pos _ _ x y c.requires.positive p.high q.low);
    }
