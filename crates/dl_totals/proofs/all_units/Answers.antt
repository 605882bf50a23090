use Rattle.dl_totals.proofs.Common.{IfOk-weaker, refl}
use Rattle.dl_totals.proofs.Singles.{all_without}
use Rattle.dl_totals.proofs.all_units.Goals as goal

pub returns : goal.returns
returns g c =
    IfOk-weaker c.shortest_first.result _ _
    (λ sum part. all_without c.args.cells c.args.units.now _ sum refl part)
    c.shortest_first.ensures
