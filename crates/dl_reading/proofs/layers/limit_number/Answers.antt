-- What is written here is well formed.
use Rattle.dl_reading.proofs.layers.limit_number.Goals as goal

pub number-requires : goal.number-requires
number-requires c = rw c.in-Finite.is at c.requires
