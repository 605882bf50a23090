use Rattle.dl_shares.proofs.ClaimSums.{low_running}
use Rattle.dl_shares.proofs.running.low_sum.Goals as goal

pub returns : goal.returns
returns g c = low_running c.args.total.now c.args.x _ c.cells.ensures.grid c.cdf.ensures.low
