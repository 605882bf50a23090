-- The distribution, and the probability of no claim.
use Rattle.dl_reading.proofs.Agreeing.{read_both}
use Rattle.dl_reading.proofs.count.distribution.Goals as goal

pub returns-in-Exposed : goal.returns-in-Exposed
returns-in-Exposed c =
    rw c.in-Exposed.is (read_both (λ freq zero. (freq, zero)) c.grid_freq-freq.ensures c.zero_number-zero.ensures c.or.ensures)
