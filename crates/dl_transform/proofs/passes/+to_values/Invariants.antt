use Rattle.dl_transform.proofs.passes.+to_values.Given as goal

abbrev pub decreases-to_values : goal.decreases-to_values
decreases-to_values l = l.levels
