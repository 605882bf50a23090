use Rattle.dl_budget.proofs.steps.+power_spread.Given as goal

abbrev pub decreases-power_spread : goal.decreases-power_spread
decreases-power_spread g l = l.n
