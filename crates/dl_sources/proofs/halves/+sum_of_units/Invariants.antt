use Rattle.dl_sources.proofs.halves.+sum_of_units.Given as goal

abbrev pub decreases-sum_of_units : goal.decreases-sum_of_units
decreases-sum_of_units g l = l.many
