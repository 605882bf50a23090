-- What is written here is well formed.
use Rattle.dl_reading.proofs.count.zero_number.Goals as goal

pub number-requires : goal.number-requires
number-requires c = rw c.in-Modified.is at c.requires
