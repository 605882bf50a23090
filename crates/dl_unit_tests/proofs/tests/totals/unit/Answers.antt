-- A number of sixths is enclosed.
use Rattle.std.proofs.Common.{rules, arith, ◌<◌, ◌/◌, ◌^◌}
use Rattle.std.proofs.Math.Nat.{div-le_self}
use Rattle.dl_iv.proofs.Conditions.{enclose_fits}
use Rattle.dl_grid.proofs.Sizes.{few_at_each_scale}
use Rattle.dl_unit_tests.proofs.tests.totals.unit.Goals as goal

pub enclose-requires : goal.enclose-requires
enclose-requires g c =
    let num : c.from.result < 256 = search rules in
    let below : c.from.result / 6 < 2 ^ 71 = omega (arith, num, div-le_self c.from.result 6) in (
      omega arith,
      (
        c.requires.scale_above,
        (
          c.requires.scale_below,
          (
            omega arith,
            (
              omega arith,
              (
                omega (arith, num),
                enclose_fits _ _ _ c.requires.scale_below (omega arith) below,
              ),
            ),
          ),
        ),
      ),
    )

pub zero-requires : goal.zero-requires
zero-requires g c = (
  omega arith,
  record {
    scale_above = c.requires.scale_above;
    scale_below = c.requires.scale_below;
    some = omega arith;
    few = few_at_each_scale _ (omega arith);
  },
)
