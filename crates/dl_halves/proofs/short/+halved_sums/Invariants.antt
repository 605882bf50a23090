use Rattle.dl_halves.proofs.Common.{length}
use Rattle.dl_halves.proofs.short.+halved_sums.Given as goal

abbrev pub decreases-halved_sums : goal.decreases-halved_sums
decreases-halved_sums l = length l.out.now
