use Rattle.dl_unit.proofs.Common.{count_budget}
use Rattle.dl_unit.proofs.unit.sum_grid.Goals as goal

pub returns-in-Fixed : goal.returns-in-Fixed
unfolding count_budget
returns-in-Fixed g c = rw c.in-Fixed.is c.fixed_claims.ensures

pub returns-in-Table : goal.returns-in-Table
unfolding count_budget
returns-in-Table g c = rw (c.in-Table.is, ← c.as_slice.ensures) c.listed_claims.ensures

pub returns-in-Bernoulli : goal.returns-in-Bernoulli
unfolding count_budget
returns-in-Bernoulli g c = rw c.in-Bernoulli.is c.one_trial.ensures

pub returns-in-Binomial : goal.returns-in-Binomial
unfolding count_budget
returns-in-Binomial g c = rw c.in-Binomial.is c.binomial_claims.ensures
