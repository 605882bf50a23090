use Rattle.dl_model.proofs.Minus.{at_least_minus, at_most_minus}
use Rattle.dl_model.proofs.values.law_difference.Goals as goal

pub returns : goal.returns
returns c = record { low = at_least_minus; high = at_most_minus }
