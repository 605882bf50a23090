use Rattle.dl_measures.proofs.layers.grid_layer_mean.Goals as goal

pub returns-clause-holds : goal.returns-clause-holds
returns-clause-holds g c us d e = c.layer_mean.ensures.holds us d (rw c.walked-distribution.ensures e)
