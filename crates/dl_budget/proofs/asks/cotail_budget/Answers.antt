use Rattle.dl_budget.proofs.Common.{◌+◌, ◌-◌, arith, ap, ◌∙◌, num_below}
use Rattle.dl_budget.proofs.Horizons.{few_cells}
use Rattle.dl_budget.proofs.TailShares.{cells_total, share_room, share_small, share_value}
use Rattle.dl_budget.proofs.asks.cotail_budget.Goals as goal

pub returns-clause-value : goal.returns-clause-value
returns-clause-value g c =
    let unit = c.requires.unit in
    ap (λ t. t + 4) c.div_ceil.ensures
    ∙ share_value _ _ _ _ c.args.plan.now.cells _ _ _ _ _ _ _ c.args.p
    unit.mean unit.joint c.requires.plan.are.total c.kappa_budget.ensures.value
    c.den-2.ensures.part c.den.ensures.part c.num.ensures.part c.requires.level.below

pub overflow_mul-parts : goal.overflow_mul-parts
overflow_mul-parts g c = omega (
  arith,
  share_room _ _ _ _ _ _ _ c.requires.plan.valid c.requires.plan.are c.requires.unit
      c.kappa_budget.ensures.small c.den-2.ensures.part c.requires.few,
)

pub div_ceil-requires : goal.div_ceil-requires
div_ceil-requires g c = let below = num_below c.args.p c.requires.level.below in omega arith

pub returns-clause-small : goal.returns-clause-small
returns-clause-small g c =
    let below = num_below c.args.p c.requires.level.below in
    omega (
      arith,
      share_small _ (c.den.result - c.num.result) (omega arith)
          (share_room _ _ _ _ _ _ _ c.requires.plan.valid c.requires.plan.are c.requires.unit
          c.kappa_budget.ensures.small c.den-2.ensures.part c.requires.few),
    )

pub overflow_sub-rest : goal.overflow_sub-rest
overflow_sub-rest g c = let below = num_below c.args.p c.requires.level.below in omega arith

pub overflow_mul-sums-2 : goal.overflow_mul-sums-2
overflow_mul-sums-2 g c = omega (
  arith,
  cells_total c.args.plan.now.cells c.args.budgets.total
      (few_cells c.args.plan.now c.requires.plan.valid).1 c.requires.plan.are.total_small,
)

pub overflow_add-sums-3 : goal.overflow_add-sums-3
overflow_add-sums-3 g c = omega (
  arith,
  cells_total c.args.plan.now.cells c.args.budgets.total
      (few_cells c.args.plan.now c.requires.plan.valid).1 c.requires.plan.are.total_small,
  c.requires.unit.joint_small,
)

pub overflow_add-result : goal.overflow_add-result
overflow_add-result g c =
    let some = num_below c.args.p c.requires.level.below in
    let room = share_room _ _ _ _ _ _ _ c.requires.plan.valid c.requires.plan.are c.requires.unit c.kappa_budget.ensures.small
    c.den-2.ensures.part c.requires.few in
    omega (arith, share_small _ (c.den.result - c.num.result) (omega arith) room)
