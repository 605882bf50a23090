-- The loss of a unit, from its claims and its aggregate clause.
use Rattle.std.specs.Prelude.{ℕ, ◌*◌, ◌≤◌, nat_eq, List}
use Rattle.dl_exact.specs.Prelude.{Fraction, sum_to}
use Rattle.dl_plan.specs.declared.item.Item.{Item}
use Rattle.dl_plan.specs.Weighted.{greatest}
use Rattle.dl_model.specs.Series.{Series}
use Rattle.dl_model.specs.Compound.{cell}
use Rattle.dl_model.specs.Severity.{IsSeverity}
use Rattle.dl_model.specs.Listed.{probability_at}
use Rattle.dl_model.specs.Counts.{AreCountWeights}
use Rattle.dl_model.specs.Family.{Family}
use Rattle.dl_model.specs.Program.{Loss, where_true}

-- The aggregate loss of a unit: the weight of each claim count (not normalised), the probability of
-- each amount of one claim, the greatest amount, and what the aggregate clause makes of the sum.
pub record Aggregate : Type 0 where
  pub count : ℕ → Fraction
  pub severity : ℕ → Fraction
  pub most : ℕ
  pub clause : ℕ → ℕ

-- the unit's outcome y, from at most N claims: the sums that the clause maps to y
abbrev pub outcome : Aggregate → ℕ → Series
outcome u y N =
    sum_to (N * u.most) (λ s. where_true (nat_eq (u.clause s) y) (cell u.count u.severity s N))

-- the outcomes of a unit, after its aggregate clause
abbrev pub mapped : Aggregate → Family
mapped u = record { cells = outcome u; all = λ N. sum_to N u.count }

-- the loss of a unit: from at most N claims no outcome is above N times the greatest amount
abbrev pub loss : Aggregate → Loss
loss u = record { family = mapped u; last_outcome = λ N. N * u.most }

-- a unit without an aggregate clause: its outcome is the sum of its claims
abbrev pub plain : (count severity : ℕ → Fraction) → (most : ℕ) → Aggregate
plain count severity most =
    record { count = count; severity = severity; most = most; clause = λ s. s }

-- one of listed counts and listed amounts
abbrev pub listed_aggregate : List Item → List Item → Aggregate
listed_aggregate counts amounts =
    plain (probability_at counts) (probability_at amounts) (greatest amounts)

-- a unit that can be declared: its probabilities add up to 1, and its aggregate clause raises no
-- sum
pub record IsDeclarable (u : Aggregate) : Type 0 where
  pub severity : IsSeverity u.severity u.most
  pub clause : (s : ℕ) → u.clause s ≤ s

-- a unit that can be declared, its count included
pub record IsDeclared (u : Aggregate) : Type 0 where
  pub unit : IsDeclarable u
  pub count : AreCountWeights u.count
