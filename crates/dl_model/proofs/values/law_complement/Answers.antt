use Rattle.dl_model.proofs.ValueLaws.{at_least_rest, at_most_rest}
use Rattle.dl_model.proofs.values.law_complement.Goals as goal

pub returns : goal.returns
returns c = record { low = at_least_rest; high = at_most_rest }
