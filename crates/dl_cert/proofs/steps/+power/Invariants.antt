use Rattle.dl_cert.proofs.steps.+power.Given as goal

abbrev pub decreases-power : goal.decreases-power
decreases-power l = l.n
