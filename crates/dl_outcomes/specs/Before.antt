-- A unit before its probability of no claim is changed, and its mean after.
use Rattle.std.specs.Prelude.{ℕ, ◌^◌, List, [], ◌∷◌}
use Rattle.dl_exact.specs.Prelude.{◌over◌, sum_to}
use Rattle.dl_iv.specs.declared.interval.Iv.{Iv}
use Rattle.dl_model.specs.Prelude.{Holds, Loss, One, Mean, partial_sums, GridEncloses, Aggregate, IsDeclared, mapped}

-- the interval holds the unit's probability of no claim
abbrev pub HoldsNone : {B : ℕ} → Aggregate → Iv B → Type 0
HoldsNone {B} u none =
    Holds (λ N. u.count 0) (λ N. sum_to N u.count) (none.lo over 2 ^ B) (none.hi over 2 ^ B)

-- the interval holds the mean of the loss
abbrev pub HoldsMean : {B : ℕ} → Loss → Iv B → Type 0
HoldsMean {B} l mean =
    Holds (partial_sums (l ∷ []) Mean) (partial_sums (l ∷ []) One) (mean.lo over 2 ^ B)
    (mean.hi over 2 ^ B)

-- a unit that can be declared, with cells that enclose its outcomes after its aggregate clause, and
-- an interval that holds its probability of no claim
pub record IsBefore {B : ℕ} (u : Aggregate) (cells : List (Iv B)) (chance : Iv B) : Type 0 where
  pub declared : IsDeclared u
  pub grid : GridEncloses cells (mapped u)
  pub none : HoldsNone u chance
