use Rattle.dl_iv.proofs.Common.{◌*◌, ◌^◌, ◌≤◌, arith, refl, pow_pos, div_ceil_least}
use Rattle.std.proofs.Math.Nat.{mul-le-mul, mul-le-mul_left, le_refl}
use Rattle.dl_iv.proofs.Rounding.{floor_le_ceiling, two_le}
use Rattle.dl_iv.proofs.Operations.{mul_low, mul_high}
use Rattle.dl_iv.proofs.interval.Iv.mul.Goals as goal

pub invariant_of-result-clause-ordered : goal.invariant_of-result-clause-ordered
invariant_of-result-clause-ordered g c =
    let two : 2 ≤ c.units_of_one-one.result = two_le g.row.B _ c.args.self.scale_above c.units_of_one-one.ensures in
    rw c.div_ceil-hi.ensures (floor_le_ceiling _ _ _ _ (omega arith) (le_refl _)
    (mul-le-mul c.args.self.ordered c.args.o.ordered))

pub invariant_of-result-clause-in_range : goal.invariant_of-result-clause-in_range
invariant_of-result-clause-in_range g c =
    let two : 2 ≤ c.units_of_one-one.result = two_le g.row.B _ c.args.self.scale_above c.units_of_one-one.ensures in
    let reach : 2 ^ 127 * 2 ≤ 2 ^ 127 * c.units_of_one-one.result = mul-le-mul_left (2 ^ 127) two in
    rw c.div_ceil-hi.ensures (div_ceil_least _ _ (2 ^ 127) (omega arith) (omega arith))

pub returns : goal.returns
returns g c = record {
  low = rw c.units_of_one-one.ensures refl;
  high = rw (c.div_ceil-hi.ensures, c.units_of_one-one.ensures) refl;
  holds = λ x y p q. record {
    low = rw c.units_of_one-one.ensures (mul_low _ (pow_pos g.row.B) _ _ x y p.low q.low);
    high = rw (c.div_ceil-hi.ensures, c.units_of_one-one.ensures)
        (mul_high _ (pow_pos g.row.B) _ _ x y p.high q.high);
  };
}
