use Rattle.dl_cert.proofs.Excluding.{no_bad_step}
use Rattle.dl_cert.proofs.laws.law_verified.Goals as goal

pub returns : goal.returns
returns c = no_bad_step
