-- The budgets of units that share a factor, in units of 1/S: that of the one gamma unit in their
-- place, and that of the same with one more in its shape.
use Rattle.std.specs.Prelude.{ℕ, ◌+◌, ◌*◌, ◌==◌, if◌then◌else◌, List, get_or, map}
use Rattle.dl_exact.specs.Fraction.{Fraction, whole, ◌+ℚ◌}
use Rattle.dl_grid.specs.Width.{up}
use Rattle.dl_plan.specs.declared.plan.Unit.{Unit as UnitOfPlan}
use Rattle.dl_plan.specs.Prelude.{thinned_mean, thinned_of, raised}
use Rattle.dl_budget.specs.Claims.{gamma_budget}

-- a gamma count of this shape, of which so many claims above 0 are expected; 0 where there are none
abbrev pub shape_budget : (S cells : ℕ) → (shape thinned : Fraction) → ℕ
shape_budget S cells shape thinned =
    if thinned.num == 0 then 0 else gamma_budget S cells shape thinned

-- the budget of the total: the one unit has the factor's shape and the claims of all units
abbrev pub pooled_budget : (S cells : ℕ) → Fraction → List UnitOfPlan → ℕ
pooled_budget S cells r units = shape_budget S cells r (thinned_of units)

-- that of the one unit with the shape r + 1 and (r + 1) / r times the claims
abbrev pub raised_budget : (S cells : ℕ) → Fraction → List UnitOfPlan → ℕ
raised_budget S cells r units = shape_budget S cells (r +ℚ whole 1) (raised r (thinned_of units))

-- the joint mean of a unit with this mean of its claims above 0, from the budget of the raised unit
abbrev pub shared_joint_budget : (cells before : ℕ) → Fraction → ℕ
shared_joint_budget cells before thinned = (cells * before + 2) * up thinned + 2

-- the expected claims above 0 of unit i
abbrev pub thinned_at : List UnitOfPlan → ℕ → Fraction
thinned_at units i = get_or (map thinned_mean units) i (whole 0)
