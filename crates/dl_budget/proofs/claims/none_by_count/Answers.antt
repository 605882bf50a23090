use Rattle.dl_budget.proofs.Common.{◌^◌, arith, ap, sym, subst, ◌∙◌, count_budget, IsClaimCount, IsNewZero, none_budget}
use Rattle.dl_budget.proofs.NoneSizes.{none_on}
use Rattle.dl_budget.proofs.Counts.{power_room, where_none}
use Rattle.dl_budget.proofs.claims.none_by_count.Goals as goal

pub power_spread-requires-clause-room : goal.power_spread-requires-clause-room
power_spread-requires-clause-room g c = power_room 1 1 c.in-Fixed.claims (omega arith) (omega arith)
    (subst IsClaimCount c.in-Fixed.is c.requires.count)

pub power_spread-requires-in-Binomial-clause-room : goal.power_spread-requires-in-Binomial-clause-room
power_spread-requires-in-Binomial-clause-room g c = power_room 1 6 c.in-Binomial.trials (omega arith) (omega arith)
    (subst IsClaimCount c.in-Binomial.is c.requires.count).0

pub returns-in-Fixed : goal.returns-in-Fixed
unfolding count_budget
returns-in-Fixed g c = c.power_spread.ensures.value ∙ ap (none_budget (2 ^ g.row.B)) (sym c.in-Fixed.is)

pub returns-in-Bernoulli : goal.returns-in-Bernoulli
unfolding count_budget
returns-in-Bernoulli g c = ap (none_budget (2 ^ g.row.B)) (sym c.in-Bernoulli.is)

pub returns-in-Binomial : goal.returns-in-Binomial
unfolding count_budget
returns-in-Binomial g c =
    c.power_spread-in-Binomial.ensures.value ∙ ap (none_budget (2 ^ g.row.B)) (sym c.in-Binomial.is)

pub returns-in-Poisson : goal.returns-in-Poisson
unfolding count_budget
returns-in-Poisson g c =
    where_none c.in-Poisson.mean.num _ _ c.poisson_budget.ensures.none c.poisson_budget.ensures.value
    ∙ ap (none_budget (2 ^ g.row.B)) (sym c.in-Poisson.is)

pub returns-in-Gamma : goal.returns-in-Gamma
unfolding count_budget
returns-in-Gamma g c =
    where_none c.in-Gamma.mean.num _ _ c.gamma_budget.ensures.none c.gamma_budget.ensures.value
    ∙ ap (none_budget (2 ^ g.row.B)) (sym c.in-Gamma.is)

pub gamma_budget-requires-clause-count : goal.gamma_budget-requires-clause-count
gamma_budget-requires-clause-count g c =
    none_on c.in-Gamma.shape c.in-Gamma.mean c.requires.changed.0 (subst IsClaimCount c.in-Gamma.is c.requires.count)
    (subst (λ f. IsNewZero f c.requires.changed.0) c.in-Gamma.is c.requires.changed.1)
