-- The units of a valid plan can be declared.
use Rattle.dl_model.proofs.Common.{ℕ, ◌*◌, ◌/◌, ◌≤◌, List, [], ◌∷◌, map, Option, arith, IfSome, All, All-head, All-tail, Fraction, whole, ◌≤ℚ◌, le_of_lt, over_self, over_le, le_over, Sev, Freq, Fixed, Table, Bernoulli, Binomial, Poisson, Gamma, Clause, kept, greatest, IsAggregate, IsValidUnit, num_le_den, AreCountWeights, AreDeclarable, IsDeclared, IsDeclaredLoss, AreDeclared, count_weights, outcome_after, aggregate_of, loss_of, Plan, IsClause, IsNewZero, IsValid, kept_is, bucket_pos, aggregates_of, after_zero, declared, total, div-le_of_le-mul, le_refl_n, UnitOfPlan, IsCountOfPlan, kept_parts, parts_in_bucket, kept_le}
use Rattle.std.proofs.Common.{Some, None}
use Rattle.dl_model.proofs.ChangedLoss.{changed_declared}
use Rattle.dl_model.proofs.NewZero.{count_new_zero, some_weight}
use Rattle.dl_model.proofs.CountBounds.{finite_count, fixed_count, binomial_count, poisson_count, gamma_of_count}
use Rattle.dl_model.proofs.Bounded.{are_units}
use Rattle.dl_model.proofs.UnitLosses.{unit_declared_loss}
use Rattle.dl_model.proofs.ItemWeights.{shares_severity}

-- ---- the clause raises no sum

floor_le : (x : Fraction) (n : ℕ) → x ≤ℚ whole n → x.num / x.den ≤ n
floor_le x n h =
    let cross : x.num * 1 ≤ n * x.den = le_over x.num x.den n 1 x.positive (omega arith)
    (rw (over_self x) h) in
    div-le_of_le-mul x.den (omega (arith, cross))

pub kept_within : (clause : Clause) (s : ℕ) → IsClause clause → kept clause s ≤ℚ whole s
kept_within clause s h =
    let c = parts_in_bucket clause in
    rw (kept_is clause s) (over_le (kept_parts clause c s) c s 1 (bucket_pos clause) (omega arith) (omega (arith, kept_le clause c s h)))

pub clause_within : (cells : ℕ) (sev : Sev) (cede : Option Clause) → IfSome cede (IsAggregate cells sev) → (s : ℕ)
    → outcome_after cede s ≤ s
clause_within cells sev None h s = le_refl_n s
clause_within cells sev (Some clause) h s = floor_le (kept clause s) s (kept_within clause s h.accepted)

-- ---- the count can be declared

pub count_declared : (freq : Freq) → IsCountOfPlan freq → AreCountWeights (count_weights freq)
count_declared (Fixed m) h = fixed_count m
count_declared (Table counts total) h = finite_count _ (greatest counts) (shares_severity counts total h.0)
count_declared (Bernoulli q) h = binomial_count 1 q.num q.den q.positive (num_le_den q h.within)
count_declared (Binomial trials q) h = binomial_count trials q.num q.den q.positive (num_le_den q h.1.within)
count_declared (Poisson mean) h = poisson_count mean
count_declared (Gamma shape mean) h = gamma_of_count shape mean h.shape.above

-- ---- the unit

pub unit_declared : (cells : ℕ) (u : UnitOfPlan) → IsValidUnit cells u → IsDeclared (aggregate_of u)
unit_declared cells u h = record {
  unit = record {
    severity = shares_severity u.sev.items u.sev.total u.sev.weighted;
    clause = clause_within cells u.sev u.cede h.clause;
  };
  count = count_declared u.freq h.count;
}

-- as a total knows it
loss_declared : (changed_to : Option Fraction) (u : UnitOfPlan) → IsDeclared (aggregate_of u) → IsCountOfPlan u.freq
    → IfSome changed_to (IsNewZero u.freq) → IsDeclaredLoss (after_zero changed_to (aggregate_of u))
loss_declared None u declared count h = unit_declared_loss (aggregate_of u) declared
loss_declared (Some p) u declared count h =
    let some = some_weight (count_weights u.freq) declared.count (count_new_zero u.freq p count h) in
    changed_declared p (aggregate_of u) declared (le_of_lt _ _ h.below) some.0 some.1

pub loss_of_declared : (cells : ℕ) (u : UnitOfPlan) → IsValidUnit cells u → IsDeclaredLoss (loss_of u)
loss_of_declared cells u h = loss_declared u.zero u (unit_declared cells u h) h.count h.zero

pub units_declared : (cells : ℕ) (units : List UnitOfPlan) → All (IsValidUnit cells) units
    → AreDeclared (map loss_of units)
units_declared cells [] h = tt
units_declared cells (u ∷ us) h = (
  loss_of_declared cells u (All-head (IsValidUnit cells) u us h),
  units_declared cells us (All-tail (IsValidUnit cells) u us h),
)

pub plan_declared : (plan : Plan) → IsValid plan → AreDeclared (aggregates_of plan)
plan_declared plan h = units_declared plan.cells plan.units h.units

pub plan_units : (plan : Plan) → IsValid plan → AreDeclarable (aggregates_of plan)
plan_units plan h = are_units (aggregates_of plan) (plan_declared plan h)
