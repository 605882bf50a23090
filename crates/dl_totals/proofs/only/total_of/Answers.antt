use Rattle.dl_totals.proofs.Common.{arith}
use Rattle.dl_totals.proofs.Added.{long_enough}
use Rattle.dl_totals.proofs.Singles.{back}
use Rattle.dl_totals.proofs.only.total_of.Goals as goal

pub returns-then-spread-most : goal.returns-then-spread-most
returns-then-spread-most g c =
    record {
      cells = c.in_ok-sum.ensures.cells;
      encloses = back c.args.cells c.args.units.now c.args.i c.args.others.now c.index-units-i.result c.in_ok-sum.sum
          c.requires.unit c.index-units-i.is c.requires.others
          (long_enough c.args.units.now c.args.cells c.args.i c.index-units-i.result c.requires.unit c.index-units-i.is
          c.requires.cells.in_each) c.in_ok-sum.ensures.cells c.in_ok-sum.ensures.convolution;
      narrow = omega (arith, c.spread.ensures, c.in-Some.ensures, c.if-spread-most.true);
    }
