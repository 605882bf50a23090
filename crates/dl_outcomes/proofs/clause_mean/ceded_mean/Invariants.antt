use Rattle.dl_outcomes.proofs.MeanEnds.{HasCeded}
use Rattle.dl_outcomes.proofs.clause_mean.ceded_mean.Given as goal

abbrev pub invariant-layers : goal.invariant-layers
invariant-layers g l = HasCeded l.grid l.claims l.cede.1 l.layer-index l.ceded
