use Rattle.dl_totals.proofs.Common.{arith}
use Rattle.dl_model.specs.Measures.{without}
use Rattle.dl_totals.proofs.TreeLaws.{where_there}
use Rattle.dl_totals.proofs.only.others_shortest.Goals as goal

pub others_unless_wide-requires : goal.others_unless_wide-requires
others_unless_wide-requires g c = (
  omega arith,
  (
    c.requires.unit,
    (
      c.requires.few,
      (
        c.requires.cells,
        where_there c.args.cells c.args.units.now (λ us. without us c.args.i) c.in_ok-sum.sum c.in_ok-sum.ensures,
      ),
    ),
  ),
)
