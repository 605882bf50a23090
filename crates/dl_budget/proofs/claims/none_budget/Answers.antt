use Rattle.dl_budget.proofs.NoneSizes.{none_within}
use Rattle.dl_budget.proofs.claims.none_budget.Goals as goal

pub returns-clause-small : goal.returns-clause-small
returns-clause-small g c = none_within g.row.B c.args.freq.now _ c.requires.scale c.requires.count c.requires.changed
    c.none_by_count.ensures
