use Rattle.dl_budget.proofs.Common.{◌+◌, ◌^◌, arith, ap, ap₂, sym, ◌∙◌, sum_by_more, unit_mean_budget}
use Rattle.dl_budget.proofs.Sums.{means_few, means_next, means_so_far}
use Rattle.dl_budget.proofs.units.sum_of_means.Goals as goal

pub overflow_add-sum : goal.overflow_add-sum
overflow_add-sum g c =
    let next = means_next c.args.units.now c.loop-unit.unit-index _ _ c.unit-item.result c.requires.units (omega arith)
    c.unit-item.is c.loop-unit.invariant.small c.unit_mean_budget-sum.ensures.kind in
    omega (arith, next.1)

pub loop-unit-preserved : goal.loop-unit-preserved
loop-unit-preserved g c = record {
  value = ap₂ (λ s t. s + t) c.loop-unit.invariant.value
      (c.unit_mean_budget-sum.ensures.value ∙ ap (unit_mean_budget (2 ^ g.row.B) c.args.cells) c.unit-item.is)
      ∙ sym (sum_by_more (unit_mean_budget (2 ^ g.row.B) c.args.cells) c.args.units.now c.loop-unit.unit-index
      c.unit-item.result (omega arith));
  small = (means_next c.args.units.now c.loop-unit.unit-index _ _ c.unit-item.result c.requires.units (omega arith)
      c.unit-item.is c.loop-unit.invariant.small c.unit_mean_budget-sum.ensures.kind).0;
}

pub returns-clause-small : goal.returns-clause-small
returns-clause-small g c = omega (
  arith,
  c.loop-unit.invariant.small,
  means_so_far c.args.units.now c.loop-unit.unit-index,
  means_few c.args.units.now c.requires.units,
)
