-- What is written here is well formed.
use Rattle.dl_reading.proofs.count.grid_exposure.Goals as goal

pub number-claims-requires : goal.number-claims-requires
number-claims-requires c = rw c.in-Claims.is at c.requires

pub number-loss-requires : goal.number-loss-requires
number-loss-requires c = rw c.in-Loss.is at c.requires

pub number-amount-requires : goal.number-amount-requires
number-amount-requires c = (rw c.in-Premium.is at c.requires).0

pub number-ratio-requires : goal.number-ratio-requires
number-ratio-requires c = (rw c.in-Premium.is at c.requires).1
