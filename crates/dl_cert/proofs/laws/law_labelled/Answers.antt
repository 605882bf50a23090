use Rattle.dl_cert.proofs.Labelled.{encloses_none, encloses_once, encloses_together}
use Rattle.dl_cert.proofs.laws.law_labelled.Goals as goal

pub returns-clause-none : goal.returns-clause-none
returns-clause-none c Fs S K lo hi = encloses_none S K lo hi Fs

pub returns-clause-unit : goal.returns-clause-unit
returns-clause-unit c Fs u S K lo hi = encloses_once S K lo hi Fs u

pub returns-clause-both : goal.returns-clause-both
returns-clause-both c Fs a b S K lo hi = encloses_together S K lo hi Fs a b
