-- The claims of a unit, and the ends of a joint mean that is made from them.
use Rattle.std.specs.Prelude.{ℕ, ⊤, ◌-◌, ◌*◌, ◌/◌}
use Rattle.std.specs.Coded.{le_prop}
use Rattle.std.specs.Int.{div_ceil}
use Rattle.dl_exact.specs.Fraction.{Fraction}
unfoldable use Rattle.dl_exact.specs.Fraction.{◌<ℚ◌, ◌≤ℚ◌}
use Rattle.dl_plan.specs.declared.plan.Freq.{Freq}
use Rattle.dl_plan.specs.declared.plan.Freq.TheVariants.{Fixed, Table, Bernoulli, Binomial, Poisson, Gamma}
use Rattle.dl_plan.specs.declared.plan.Unit.{Unit as UnitOfPlan}
use Rattle.dl_plan.specs.Prelude.{HasPartsOf48Bits, IsGammaCount, expected_count, thinned_mean, weight_at}

-- a Poisson count, or a gamma count of an admitted shape: there is no greatest number of claims
abbrev pub IsPoissonOrGamma : Freq → Type 0
IsPoissonOrGamma (Poisson mean) = ⊤
IsPoissonOrGamma (Gamma shape mean) = IsGammaCount shape mean
IsPoissonOrGamma freq = ⊥

-- a Poisson or a gamma unit, whose expected numbers of claims, and of claims above 0, have parts below
-- 2^48
pub record HasClaims (u : UnitOfPlan) : Type 0 where
  pub count : IsPoissonOrGamma u.freq
  pub expected : HasPartsOf48Bits (expected_count u.freq)
  pub thinned : HasPartsOf48Bits (thinned_mean u)

-- it has one proof at most
gamma-prop : (r v : Fraction) → IsProp (IsGammaCount r v)
unfolding ◌<ℚ◌ ◌≤ℚ◌
gamma-prop r v = hlevel le_prop

poisson_or_gamma-prop : (freq : Freq) → IsProp (IsPoissonOrGamma freq)
poisson_or_gamma-prop (Fixed m) = hlevel
poisson_or_gamma-prop (Table counts total) = hlevel
poisson_or_gamma-prop (Bernoulli q) = hlevel
poisson_or_gamma-prop (Binomial trials q) = hlevel
poisson_or_gamma-prop (Poisson mean) = hlevel
poisson_or_gamma-prop (Gamma shape mean) = gamma-prop shape mean

pub HasClaims-prop : (u : UnitOfPlan) → IsProp (HasClaims u)
HasClaims-prop u = hlevel (le_prop, poisson_or_gamma-prop)

-- the weight of the amounts above 0
abbrev pub positive_weight : UnitOfPlan → ℕ
positive_weight u = u.sev.total - weight_at u.sev.items 0

-- The expected number of claims above 0, times the mean over one such claim: a sum over its amounts,
-- each with its weight, over the weight of all. Both the mean and its product are rounded down; and
-- 0 where no claim above 0 is expected.
abbrev pub claims_down : UnitOfPlan → ℕ → ℕ
claims_down u sum = sum / positive_weight u * (thinned_mean u).num / (thinned_mean u).den

-- the same, both rounded up
abbrev pub claims_up : UnitOfPlan → ℕ → ℕ
claims_up u sum = div_ceil (div_ceil sum (positive_weight u) * (thinned_mean u).num) (thinned_mean u).den
