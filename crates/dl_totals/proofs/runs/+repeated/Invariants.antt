use Rattle.dl_totals.proofs.runs.+repeated.Given as goal

abbrev pub decreases-repeated : goal.decreases-repeated
decreases-repeated g l = l.many
