-- What is written here is well formed.
use Rattle.dl_reading.proofs.numbers.number_or.Goals as goal

pub number-requires : goal.number-requires
number-requires c = rw (← c.as_ref.ensures, c.in-Some.is) at c.requires
