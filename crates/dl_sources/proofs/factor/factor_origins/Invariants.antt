-- What the joint means of the units so far come from.
use Rattle.dl_sources.proofs.Common.{◌≡◌, map, take, factor_origin}
use Rattle.dl_sources.proofs.factor.factor_origins.Given as goal

abbrev pub invariant-loop-of : goal.invariant-loop-of
invariant-loop-of g l = l.origins.items ≡ map factor_origin (take l.of-index l.budgets.of_units.items)
