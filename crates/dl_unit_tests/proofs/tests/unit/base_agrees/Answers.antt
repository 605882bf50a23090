use Rattle.std.proofs.Common.{rules, arith, ◌<◌, ◌^◌}
use Rattle.dl_grid.specs.Prelude.{IsGridSize}
use Rattle.dl_grid.proofs.Sizes.{few_at_each_scale}
use Rattle.dl_unit_tests.proofs.TestLaws.{half_of}
use Rattle.dl_unit_tests.proofs.tests.unit.base_agrees.Goals as goal

pub poisson_base-requires : goal.poisson_base-requires
poisson_base-requires g c =
    let size : IsGridSize g.row.B 4 = record {
      scale_above = c.requires.above;
      scale_below = c.requires.below;
      some = omega arith;
      few = few_at_each_scale g.row.B (omega arith);
    } in
    let num : c.fraction.result.num < 2 ^ 48 = omega (arith, c.fraction.ensures.num) in
    let den : c.fraction.result.den < 2 ^ 48 = omega (arith, c.fraction.ensures.den) in
    let half = half_of c.fraction.result c.fraction.ensures.value in
    (omega arith, (size, (record { num = num; den = den }, (omega arith, (half, search rules)))))
