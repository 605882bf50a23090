-- Which plans have certificates.
use Rattle.std.specs.Prelude.{ℕ, ◌≡◌, ◌≢◌, ◌⊎◌, ◌<◌, ◌≤◌, ⊤, None, List, length, get_or, All}
use Rattle.dl_limits.specs.Limits.{most_cert_cells, standard_units}
use Rattle.dl_plan.specs.declared.plan.Freq.{Freq}
use Rattle.dl_plan.specs.declared.plan.Freq.TheVariants.{Fixed, Table, Bernoulli, Binomial, Poisson, Gamma}
use Rattle.dl_plan.specs.declared.plan.Plan.{Plan}
use Rattle.dl_plan.specs.declared.plan.Unit.{Unit as UnitOfPlan}
use Rattle.dl_plan.specs.Fine.{IsWhole}
use Rattle.dl_plan.specs.Valid.{IsValid}

-- a valid plan of no more cells than a certificate can have
pub record IsCertPlan (plan : Plan) : Type 0 where
  pub valid : IsValid plan
  pub few : plan.cells ≤ most_cert_cells

-- a listed count: no sum of equal parts
abbrev pub IsTable : Freq → Type 0
IsTable (Fixed m) = ⊥
IsTable (Table counts total) = ⊤
IsTable (Bernoulli q) = ⊥
IsTable (Binomial trials q) = ⊥
IsTable (Poisson mean) = ⊥
IsTable (Gamma shape mean) = ⊥

-- a gamma count has a whole shape, so that it is a sum of equal parts
abbrev pub IsWholeShaped : Freq → Type 0
IsWholeShaped (Gamma shape mean) = IsWhole shape
IsWholeShaped freq = ⊤

-- a unit without a listed count, a shape that is not whole, an aggregate clause and a changed
-- probability of no claim
pub record IsCoveredUnit (u : UnitOfPlan) : Type 0 where
  pub count : ¬ IsTable u.freq
  pub shape : IsWholeShaped u.freq
  pub clause : u.cede ≡ None
  pub zero : u.zero ≡ None

-- a plan of at most 16 such units, which share no factor
pub record IsCovered (plan : Plan) : Type 0 where
  pub few : length plan.units ≤ standard_units
  pub units : All IsCoveredUnit plan.units
  pub common : plan.common ≡ None

-- unit i is the first that is not covered, as are all behind the first 16
pub record IsFirstUncovered (units : List UnitOfPlan) (i : ℕ) : Type 0 where
  pub inside : i < length units
  pub few : i ≤ standard_units
  pub here : (default : UnitOfPlan)
      → (i ≡ standard_units) ⊎ ¬ IsCoveredUnit (get_or units i default)
  pub before : (k : ℕ) (default : UnitOfPlan) → k < i → IsCoveredUnit (get_or units k default)

-- what a plan that is not covered is refused with: the number of its first unit that is not
-- covered, or 0 where its units share a factor
abbrev pub IsNotCovered : Plan → ℕ → Type 0
IsNotCovered plan i = (plan.common ≢ None × (i ≡ 0))
    ⊎ ((plan.common ≡ None) × IsFirstUncovered plan.units i)
