use Rattle.dl_cert.proofs.Passing.{certified}
use Rattle.dl_cert.proofs.laws.law_certified.Goals as goal

pub returns : goal.returns
returns c plan steps grid valid covered = certified plan valid covered steps grid
