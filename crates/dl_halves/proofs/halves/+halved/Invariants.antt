use Rattle.dl_halves.proofs.Common.{length}
use Rattle.dl_halves.proofs.halves.+halved.Given as goal

abbrev pub decreases-halved : goal.decreases-halved
decreases-halved g l = length l.a.now
