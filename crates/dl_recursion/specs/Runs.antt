-- The amounts of a claim with their weights, one by one and in runs.
use Rattle.std.specs.Prelude.{ℕ, zero, suc, ◌+◌, ◌^◌, ◌<◌, ◌≤◌, ◌==◌, if◌then◌else◌, List, [], ◌∷◌, ◌++◌, All, sum_by, flat_map}
use Rattle.dl_recursion.specs.declared.parts.Part.{Part}
use Rattle.dl_recursion.specs.declared.parts.Run.{Run}
use Rattle.dl_recursion.specs.declared.parts.Amounts.{Amounts}

-- the weights together
abbrev pub part_sum : List Part → ℕ
part_sum parts = sum_by (λ p. p.weight) parts

-- the weight of amount j
abbrev pub part_at : List Part → ℕ → ℕ
part_at parts j = sum_by (λ p. if p.amount == j then p.weight else 0) parts

-- n amounts from this one on, each of this weight
unfoldable pub in_a_row : ℕ → ℕ → ℕ → List Part
in_a_row amount zero weight = []
in_a_row amount (suc n) weight =
    record { amount = amount; weight = weight } ∷ in_a_row (suc amount) n weight

-- the amounts of a run
abbrev pub run_parts : Run → List Part
run_parts run = in_a_row run.amount run.count run.weight

-- all amounts
abbrev pub all_parts : Amounts → List Part
all_parts amounts = amounts.parts.items ++ flat_map run_parts amounts.runs.items

-- a run of amounts above 0 and below 2^32, not empty
pub record IsRun (run : Run) : Type 0 where
  pub amount : 0 < run.amount
  pub count : 0 < run.count
  pub end : run.amount + run.count ≤ 2 ^ 32

-- no amount is 0
pub record ArePositiveAmounts (amounts : Amounts) : Type 0 where
  pub parts : All (λ p. 0 < p.amount) amounts.parts.items
  pub runs : All IsRun amounts.runs.items
