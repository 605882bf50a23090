-- The budget of a unit by the kind of its count.
use Rattle.dl_unit.proofs.Common.{ℕ, ◌≡◌, ◌<◌, arith, refl, Fraction, Poisson, Gamma, thinned_mean, poisson_budget, gamma_budget, claims_budget, poisson_value, gamma_value}
use Rattle.dl_plan.specs.declared.plan.Unit.{Unit as UnitOfPlan}

pub poisson_some : (S K : ℕ) (u : UnitOfPlan) {mean : Fraction} → u.freq ≡ Poisson mean → 0 < (thinned_mean u).num
    → poisson_budget S K (thinned_mean u) ≡ claims_budget S K u
poisson_some S K u {mean} is some =
    poisson_value S K u mean (thinned_mean u) (poisson_budget S K (thinned_mean u)) is refl
    (λ none. absurd (omega (arith, none, some))) (λ more. refl)

pub gamma_some : (S K : ℕ) (u : UnitOfPlan) {shape mean : Fraction} → u.freq ≡ Gamma shape mean
    → 0 < (thinned_mean u).num
    → gamma_budget S K shape (thinned_mean u) ≡ claims_budget S K u
gamma_some S K u {shape} {mean} is some =
    gamma_value S K u shape mean (thinned_mean u) (gamma_budget S K shape (thinned_mean u)) is refl
    (λ none. absurd (omega (arith, none, some))) (λ more. refl)
