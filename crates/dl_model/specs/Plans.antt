-- The quantities that the units of a plan declare.
use Rattle.std.specs.Prelude.{ℕ, ◌/◌, Option, None, Some, List, [], ◌∷◌, map, sum}
use Rattle.dl_exact.specs.Fraction.{Fraction, ◌over◌}
use Rattle.dl_plan.specs.declared.cede.CedeLayer.{CedeLayer}
use Rattle.dl_plan.specs.declared.severity.Sev.{Sev}
use Rattle.dl_plan.specs.declared.plan.Freq.{Freq}
use Rattle.dl_plan.specs.declared.plan.Freq.TheVariants.{Fixed, Table, Bernoulli, Binomial, Poisson, Gamma}
use Rattle.dl_plan.specs.declared.plan.Unit.{Unit as UnitOfPlan}
use Rattle.dl_plan.specs.declared.plan.Plan.{Plan}
use Rattle.dl_plan.specs.Prelude.{weight_at, greatest, probability_of, Clause, ceded, kept}
use Rattle.dl_model.specs.Counts.{fixed, binomial, poisson, gamma_of}
use Rattle.dl_model.specs.Series.{Series}
use Rattle.dl_model.specs.Program.{Loss, Quantity, sum_over_outcomes, partial_sums}
use Rattle.dl_model.specs.Units.{Aggregate, loss, plain}
use Rattle.dl_model.specs.ChangedZero.{changed}
use Rattle.dl_model.specs.Family.{Family, compound}
use Rattle.dl_model.specs.CommonFactor.{common_sums}
use Rattle.dl_model.specs.CommonUnits.{poisson_units}

-- the weight of each number of claims
abbrev pub count_weights : Freq → ℕ → Fraction
count_weights (Fixed m) = fixed m
count_weights (Table counts all) = λ n. weight_at counts n over all
count_weights (Bernoulli q) = binomial 1 q.num q.den
count_weights (Binomial trials q) = binomial trials q.num q.den
count_weights (Poisson mean) = poisson mean
count_weights (Gamma shape mean) = gamma_of shape mean

-- The outcome of a sum after an aggregate clause. A sum of claims is a multiple of the divisor of
-- the amounts, and there the clause of a valid plan keeps a whole number; the floor gives a value
-- at each other number, which no sum is.
abbrev pub outcome_after : Option Clause → ℕ → ℕ
outcome_after None s = s
outcome_after (Some clause) s = (kept clause s).num / (kept clause s).den

-- the aggregate loss of a unit, before its probability of no claim is changed
abbrev pub aggregate_of : UnitOfPlan → Aggregate
aggregate_of u = record {
  count = count_weights u.freq;
  severity = probability_of u.sev;
  most = greatest u.sev.items;
  clause = outcome_after u.cede;
}

-- a loss whose probability of no claim is changed to the new one, where there is one
abbrev pub after_zero : Option Fraction → Aggregate → Loss
after_zero None u = loss u
after_zero (Some p) u = changed p u

-- the loss of a unit as a total knows it
abbrev pub loss_of : UnitOfPlan → Loss
loss_of u = after_zero u.zero (aggregate_of u)

-- those of the units of a plan, in its order
abbrev pub aggregates_of : Plan → List Loss
aggregates_of plan = map loss_of plan.units

-- each quantity of the total that units declare, where they are independent, or where they share a
-- factor of shape r
abbrev pub declared_by : Option Fraction → List UnitOfPlan → Quantity → Series
declared_by None units = partial_sums (map loss_of units)
declared_by (Some r) units = common_sums r (poisson_units units)

-- each quantity of the total that a plan declares
abbrev pub declared : Plan → Quantity → Series
declared plan = declared_by plan.common plan.units

-- the sums of claims, before a clause
abbrev pub compound_of : Freq → Sev → Family
compound_of freq sev = compound (count_weights freq) (probability_of sev)

-- the sum of the claims of a unit, before its clause
abbrev pub claims_of : UnitOfPlan → Aggregate
claims_of u = plain (count_weights u.freq) (probability_of u.sev) (greatest u.sev.items)

-- the mean of what layers take of the sum of the claims, each by its share
abbrev pub mean_ceded : UnitOfPlan → List CedeLayer → Series
mean_ceded u layers = sum_over_outcomes (loss (claims_of u) ∷ []) (λ ys. ceded layers (sum ys))
