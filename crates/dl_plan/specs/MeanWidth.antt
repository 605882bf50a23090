-- How wide the mean of a unit may be, after its aggregate clause, from the spread of the grid of
-- its claims, in the units of both.
use Rattle.std.specs.Prelude.{ℕ, ◌+◌, ◌*◌, Option, Some, None, sum_by}
use Rattle.dl_plan.specs.Clause.{Clause}

-- what a layer adds: its limit times the spread and 3, or without a limit its attachment times the
-- spread and 4
abbrev pub part_width : (spread : ℕ) → Option ℕ → ℕ → ℕ
part_width spread None attach = attach * spread + 4
part_width spread (Some limit) attach = limit * spread + 3

-- 1, and what each layer of the clause adds
abbrev pub mean_width : Option Clause → (spread : ℕ) → ℕ
mean_width None spread = 1
mean_width (Some clause) spread = 1 + sum_by (λ l. part_width spread l.limit l.attach) clause.1
