use Rattle.dl_budget.proofs.Common.{◌+◌, ◌-◌, ◌^◌, ◌≤◌, arith, ap, ◌∙◌, mul-le-mul, num_below}
use Rattle.dl_budget.proofs.Horizons.{few_cells}
use Rattle.dl_budget.proofs.Tails.{tail_small, tail_sums, tail_value}
use Rattle.dl_budget.proofs.asks.tail_budget.Goals as goal

pub overflow_mul-sums-2 : goal.overflow_mul-sums-2
overflow_mul-sums-2 g c =
    let sums = tail_sums c.args.budgets.mean c.args.plan.now.cells c.args.budgets.total c.requires.plan.are.mean_small
    (few_cells c.args.plan.now c.requires.plan.valid).1 c.requires.plan.are.total_small in
    omega arith

pub overflow_mul-widths-2 : goal.overflow_mul-widths-2
overflow_mul-widths-2 g c =
    let sums = tail_sums c.args.budgets.mean c.args.plan.now.cells c.args.budgets.total c.requires.plan.are.mean_small
    (few_cells c.args.plan.now c.requires.plan.valid).1 c.requires.plan.are.total_small in
    let den : c.den-2.result ≤ 10 ^ 9 = omega arith in
    omega (arith, mul-le-mul sums den)

pub overflow_sub-rest : goal.overflow_sub-rest
overflow_sub-rest g c = let below = num_below c.args.p c.requires.level.below in omega arith

pub div_ceil-requires : goal.div_ceil-requires
div_ceil-requires g c = let below = num_below c.args.p c.requires.level.below in omega arith

pub returns-clause-value : goal.returns-clause-value
returns-clause-value g c =
    ap (λ t. t + 4) c.div_ceil.ensures
    ∙ tail_value _ _ c.args.plan.now.cells _ _ _ _ _ c.args.p c.requires.plan.are.mean c.requires.plan.are.total
    c.den-2.ensures.part c.den.ensures.part c.num.ensures.part
    c.requires.level.below

pub returns-clause-small : goal.returns-clause-small
returns-clause-small g c =
    let below = num_below c.args.p c.requires.level.below in
    let sums = tail_sums c.args.budgets.mean c.args.plan.now.cells c.args.budgets.total c.requires.plan.are.mean_small
    (few_cells c.args.plan.now c.requires.plan.valid).1 c.requires.plan.are.total_small in
    omega (arith, tail_small _ c.den-2.result (c.den.result - c.num.result) (omega arith) (omega arith) sums)

pub overflow_add-result : goal.overflow_add-result
overflow_add-result g c = let small = returns-clause-small g c in omega arith
