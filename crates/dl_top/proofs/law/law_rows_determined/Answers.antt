-- The law.
use Rattle.dl_top.proofs.RowsDetermined.{rows_told}
use Rattle.dl_top.proofs.law.law_rows_determined.Goals as goal

pub returns : goal.returns
returns c = rows_told
