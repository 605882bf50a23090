-- There is no whole number exactly where the denominator is not 1.
use Rattle.dl_reading.proofs.Common.{kept}
use Rattle.dl_reading.proofs.PastEdges.{off_told}
use Rattle.dl_reading.proofs.off_grid.is_off.Goals as goal

pub returns : goal.returns
returns c = off_told c.at.result c.is_none.result (kept c.args.cede.now c.args.amount) c.is_none.ensures
    c.at.ensures.value
