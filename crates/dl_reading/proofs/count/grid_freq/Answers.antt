-- What is written here is well formed.
use Rattle.dl_reading.proofs.count.grid_freq.Goals as goal

pub number-probability-requires : goal.number-probability-requires
number-probability-requires c = rw c.in-Binomial.is at c.requires

pub number-variation-requires : goal.number-variation-requires
number-variation-requires c = rw c.in-Gamma.is at c.requires
