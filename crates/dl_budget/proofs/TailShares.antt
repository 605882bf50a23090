-- The budget of a share of a tail mean by whole numbers.
use Rattle.dl_budget.proofs.Common.{ℕ, ◌≡◌, ◌+◌, ◌-◌, ◌*◌, ◌^◌, ◌<◌, ◌≤◌, arith, ap, ap₂, sym, ◌∙◌, List, length, get_or, div_ceil, mul-le-mul, Fraction, whole, ◌over◌, div_ceil_least, mul-le-mul_left, up, unit_mean_budget, map, get_or-map, ◌<ℚ◌, UnitOfPlan, Plan, IsValid, AreBudgetsOf, AreUnitBudgets, Budgets, UnitBudgets}
use Rattle.dl_budget.proofs.Horizons.{few_cells}
use Rattle.dl_budget.proofs.Tails.{over_tail}

-- the mean's budget of a unit which was read there
pub mean_here : (S cells : ℕ) (us : List UnitOfPlan) (i b : ℕ) (u : UnitOfPlan) → i < length us → u ≡ get_or us i u
    → b ≡ unit_mean_budget S cells u
    → b ≡ get_or (map (unit_mean_budget S cells) us) i 0
mean_here S cells us i b u inside is here =
    here ∙ ap (unit_mean_budget S cells) is ∙ sym (get_or-map (unit_mean_budget S cells) us i u 0 inside)

-- a product of cells and the total's budget
pub cells_total : (cells total : ℕ) → cells ≤ 65536 → total < 2 ^ 45 → cells * total ≤ 2 ^ 61
cells_total cells total few small =
    let below : total ≤ 2 ^ 45 = omega (arith, small) in
    omega (arith, mul-le-mul few below)

-- those parts times one of p
pub share_parts : (mean joint cells total kappa b d : ℕ) → mean ≤ 104 * 2 ^ 56 → joint ≤ 2 ^ 63 → cells ≤ 65536 → total < 2 ^ 45
    → kappa ≤ 2 ^ 80 → b ≡ d → d ≤ 10 ^ 4 → (mean + (joint + 2 * cells + cells * (total + 2)) + kappa + 4) * b ≤ 2 ^ 97
share_parts mean joint cells total kappa b d of_mean of_joint few small of_kappa e parts =
    let sum : mean + (joint + 2 * cells + cells * (total + 2)) + kappa + 4 ≤ 2 ^ 82 =
    omega (arith, cells_total cells total few small) in
    let most : b ≤ 10 ^ 4 = omega arith in
    omega (arith, mul-le-mul sum most)

pub share_small : (n rest : ℕ) → 0 < rest → n ≤ 2 ^ 97 → div_ceil n rest + 4 ≤ 2 ^ 98
share_small n rest some small = omega (arith, div_ceil_least n rest n some (omega (arith, mul-le-mul_left n some)))

-- from the parts of the budget and those of p
pub share_value : (M J T K cells x j y k b d n : ℕ) (p : Fraction) → x ≡ M → j ≡ J → y ≡ T → k ≡ K → b ≡ p.den → d ≡ p.den
    → n ≡ p.num → p <ℚ whole 1
    → div_ceil ((x + (j + 2 * cells + cells * (y + 2)) + k + 4) * b) (d - n) + 4
    ≡ up (((M + J + 2 * cells + cells * (T + 2) + K + 4) * p.den) over (p.den - p.num)) + 4
share_value M J T K cells x j y k b d n p of_mean of_joint of_total of_kappa =
    let first : x + (j + 2 * cells + cells * (y + 2)) + k + 4 ≡ x + j + 2 * cells + cells * (y + 2) + k + 4 = omega arith in
    let two : x + j + 2 * cells + cells * (y + 2) + k + 4 ≡ M + J + 2 * cells + cells * (T + 2) + K + 4 =
    ap₂ (λ s t. s + 2 * cells + cells * (t + 2) + k + 4) (ap₂ (λ s t. s + t) of_mean of_joint) of_total
    ∙ ap (λ t. M + J + 2 * cells + cells * (T + 2) + t + 4) of_kappa in
    over_tail (x + (j + 2 * cells + cells * (y + 2)) + k + 4) (M + J + 2 * cells + cells * (T + 2) + K + 4) b d n p
    (first ∙ two)

-- those of a unit of a valid plan
pub share_room : (S : ℕ) (plan : Plan) (budgets : Budgets) (of : UnitBudgets) (kappa b d : ℕ) → IsValid plan
    → AreBudgetsOf S plan budgets → AreUnitBudgets S plan of → kappa ≤ 2 ^ 80 → b ≡ d → d ≤ 10 ^ 4
    → (of.mean + (of.joint + 2 * plan.cells + plan.cells * (budgets.total + 2)) + kappa + 4) * b ≤ 2 ^ 97
share_room S plan budgets of kappa b d valid are unit of_kappa e parts =
    share_parts of.mean of.joint plan.cells budgets.total kappa b d unit.mean_small unit.joint_small
    (few_cells plan valid).1 are.total_small of_kappa e parts
