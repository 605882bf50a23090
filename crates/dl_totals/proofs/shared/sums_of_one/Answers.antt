use Rattle.dl_totals.proofs.OneGrid.{only_total}
use Rattle.dl_totals.proofs.shared.sums_of_one.Goals as goal

pub returns-clause-total : goal.returns-clause-total
returns-clause-total g c = only_total c.args.unit
