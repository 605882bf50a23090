-- What is written here is well formed.
use Rattle.dl_reading.proofs.layers.share_number.Goals as goal

pub number-share-requires : goal.number-share-requires
number-share-requires c = rw c.in-So.is at c.requires

pub number-amount-requires : goal.number-amount-requires
number-amount-requires c = rw c.in-Po.is at c.requires
