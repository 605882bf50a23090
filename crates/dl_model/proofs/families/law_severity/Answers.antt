use Rattle.dl_model.proofs.FiniteCounts.{severity_between}
use Rattle.dl_model.proofs.families.law_severity.Goals as goal

pub returns : goal.returns
returns c = severity_between
