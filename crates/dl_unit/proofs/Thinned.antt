-- A unit's sum of claims is that of its claims above 0, whose number is thinned.
use Rattle.dl_unit.proofs.Common.{◌≡◌, Fraction, poisson, compound, SameCells, compound_of, Poisson, Sev, pairs_of, conditioned, probability_of, HasDistribution, thinned_mean, positive, part_of_means, value_sym, thin_poisson}
use Rattle.dl_plan.specs.declared.plan.Unit.{Unit as UnitOfPlan}

pub poisson_whole : (u : UnitOfPlan) (s : Sev) {mean : Fraction} → u.freq ≡ Poisson mean
    → HasDistribution s (conditioned 0 (pairs_of u.sev))
    → SameCells (compound (poisson (thinned_mean u)) (probability_of s)) (compound_of u.freq u.sev)
poisson_whole u s {mean} is means =
    rw is (λ y. value_sym _ _ _ _ (thin_poisson mean (probability_of u.sev) (positive u.sev) (probability_of s)
    (part_of_means u.sev s means) y))
