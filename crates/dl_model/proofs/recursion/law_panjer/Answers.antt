use Rattle.dl_model.proofs.Common.{arith}
use Rattle.dl_model.proofs.Panjer.{up_to}
use Rattle.dl_model.proofs.recursion.law_panjer.Goals as goal

pub returns : goal.returns
returns c f w r a b z P R s N h = up_to f w a b z P r R s s N (omega arith) h
