-- The law.
use Rattle.dl_top.proofs.Repeated.{handed_on}
use Rattle.dl_top.proofs.law.law_written_verifies.Goals as goal

pub returns : goal.returns
returns c = handed_on
