use Rattle.std.proofs.Common.{arith, rules, ℕ, ◌≤◌, ◌<◌, ◌^◌}
use Rattle.dl_exact.proofs.Laws.{le_of_lt}
use Rattle.dl_exact.proofs.Parts.{pos_num}
use Rattle.dl_exact.specs.Fraction.{Fraction, whole}
unfoldable use Rattle.dl_exact.specs.Fraction.{◌<ℚ◌}
use Rattle.dl_grid.proofs.Sizes.{few_at_each_scale}
use Rattle.dl_grid.specs.Room.{IsGridSize}
use Rattle.dl_plan.specs.Count.{IsShape}
use Rattle.dl_unit_tests.proofs.tests.unit.gamma_meets.Goals as goal

shape_fits : (r : Fraction) → 0 < r.num → r.num < 2 ^ 32 → r.den < 2 ^ 32 → r <ℚ whole 10000 → IsShape r
shape_fits r some num den few = record {
  above = pos_num r some;
  few = le_of_lt _ _ few;
  admitted = record { num = omega (arith, num); den = omega (arith, den) };
}

sixteen : (B : ℕ) → 1 ≤ B → B ≤ 56 → IsGridSize B 16
sixteen B least most = record {
  scale_above = least;
  scale_below = most;
  some = omega arith;
  few = few_at_each_scale B (omega arith);
}

pub gamma_claims-requires : goal.gamma_claims-requires
gamma_claims-requires g c =
    let below : c.args.shape <ℚ whole 10000 = search rules in
    let low : c.in-Ok.beta <ℚ whole 65536 = search rules in
    let shape = shape_fits c.args.shape (omega (arith, c.num.ensures.part, c.if-num-eq0.false)) c.requires.shape_num
    c.requires.shape_den below in (
      omega arith,
      (
        sixteen g.row.B c.requires.above c.requires.below,
        (c.requires.no_zero, (shape, (c.in-Ok.ensures.1, rw (← c.in-Ok.ensures.0) (le_of_lt _ _ low)))),
      ),
    )

pub gamma_direct-requires : goal.gamma_direct-requires
unfolding ◌<ℚ◌
gamma_direct-requires g c =
    let below : c.args.shape <ℚ whole 10000 = search rules in
    let shape = shape_fits c.args.shape (omega (arith, c.num.ensures.part, c.if-num-eq0.false)) c.requires.shape_num
    c.requires.shape_den below in (
      omega arith,
      (
        sixteen g.row.B c.requires.above c.requires.below,
        (
          c.requires.no_zero,
          (shape, record { num = omega (arith, c.requires.num); den = omega (arith, c.requires.den) }),
        ),
      ),
    )
