-- A fraction is above 0 exactly where its first part is.
use Rattle.dl_frac.proofs.Common.{num_pos}
use Rattle.dl_exact.proofs.Parts.{pos_num}
use Rattle.dl_frac.proofs.arithmetic.Frac.num.Goals as goal

pub returns-clause-above : goal.returns-clause-above
returns-clause-above c = rw (← c.self.view_is) (pos_num _, num_pos _)
