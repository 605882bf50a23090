use Rattle.std.proofs.Common.{◌≡◌, arith}
use Rattle.dl_exact.specs.Fraction.{◌over◌}
use Rattle.dl_frac.specs.Exact.{FitsFrac}
use Rattle.dl_exact.proofs.Parts.{over_num_le, over_den_le}
use Rattle.dl_plan.proofs.Fits.{over_fits, given_ok}
use Rattle.dl_unit_tests.proofs.tests.unit.fraction.Goals as goal

pub unwrap-requires : goal.unwrap-requires
unwrap-requires c = given_ok c.make.result (c.args.num over c.args.den)
    (rw (← c.from.ensures, ← c.from-2.ensures) c.make.ensures)
    (over_fits c.args.num c.args.den c.requires (omega arith) (omega arith))

pub returns : goal.returns
returns c =
    let made : (c.unwrap.result ≡ c.args.num over c.args.den) × FitsFrac (c.args.num over c.args.den) =
    rw (c.from.ensures, c.from-2.ensures, c.unwrap.ensures) at c.make.ensures in
    record {
      value = made.0;
      num = rw made.0 (over_num_le c.args.num c.args.den c.requires);
      den = rw made.0 (over_den_le c.args.num c.args.den c.requires);
    }
