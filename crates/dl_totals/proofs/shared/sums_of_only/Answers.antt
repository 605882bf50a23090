use Rattle.dl_totals.proofs.Common.{subst, sym, refl, AreSumsWithout}
use Rattle.dl_totals.proofs.Alone.{one_without}
use Rattle.dl_totals.proofs.shared.sums_of_only.Goals as goal

pub returns-clause-others : goal.returns-clause-others
returns-clause-others g c asked many only =
    subst (AreSumsWithout c.args.cells c.args.units.now asked) (sym c.in_ok-others.ensures)
    (one_without c.args.cells c.args.units.now asked c.args.i c.in_ok-sum.sum _ only many c.in_ok-sum.ensures refl)
