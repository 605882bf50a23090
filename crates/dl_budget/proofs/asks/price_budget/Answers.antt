use Rattle.dl_budget.proofs.Common.{◌+◌, ◌^◌, arith, ap, ◌∙◌, up, whole, ◌*ℚ◌, Term, most_tail_budget, tail_budget, mean_budget, total_budget, level_there, levels_each}
use Rattle.dl_budget.proofs.Horizons.{few_cells}
use Rattle.dl_budget.proofs.Tails.{tail_most}
use Rattle.dl_budget.proofs.Prices.{price_all, price_next, price_small, weight_small}
use Rattle.dl_budget.proofs.asks.price_budget.Goals as goal

pub tail_budget-requires-clause-level : goal.tail_budget-requires-clause-level
tail_budget-requires-clause-level g c =
    level_there c.args.terms.now c.terms.term-index c.term-item.result c.terms-test.true c.term-item.is c.requires.levels

pub part_budget-sum-requires-clause-weight : goal.part_budget-sum-requires-clause-weight
part_budget-sum-requires-clause-weight g c =
    weight_small c.args.terms.now c.requires.priced c.terms.term-index c.term-item.result c.terms-test.true
    c.term-item.is

pub part_budget-sum-requires-clause-small : goal.part_budget-sum-requires-clause-small
part_budget-sum-requires-clause-small g c = c.tail_budget.ensures.small

pub terms-preserved : goal.terms-preserved
terms-preserved g c = record {
  so_far = price_next (λ (t : Term). up (t.weight *ℚ whole (tail_budget (2 ^ g.row.B) c.args.plan.now t.p)) + 2)
      c.args.terms.now c.terms.term-index c.terms.sum _ c.term-item.result c.terms-test.true c.term-item.is
      c.terms.invariant.so_far (c.part_budget-sum.ensures.value
      ∙ ap (λ n. up (c.term-item.result.weight *ℚ whole n) + 2) c.tail_budget.ensures.value);
  small = omega arith;
}

pub returns-clause-value : goal.returns-clause-value
returns-clause-value g c =
    price_all (λ (t : Term). up (t.weight *ℚ whole (tail_budget (2 ^ g.row.B) c.args.plan.now t.p)) + 2) c.args.terms.now
    c.terms.term-index c.terms.sum (omega arith) c.terms.invariant.so_far

pub returns-clause-small : goal.returns-clause-small
returns-clause-small g c =
    let plan = c.args.plan.now in
    let S = 2 ^ g.row.B in
    let levels = levels_each c.args.terms.now c.requires.levels in
    let total = c.requires.plan.are.total in
    let mean = c.requires.plan.are.mean in
    let small = price_small c.args.terms.now c.requires.priced (λ p. tail_budget S plan p) most_tail_budget
    (λ i (t : Term) inside. tail_most (mean_budget S plan) (total_budget S plan) plan.cells _
    (omega (arith, mean, c.requires.plan.are.mean_small)) (omega (arith, total, c.requires.plan.are.total_small))
    (few_cells plan c.requires.plan.valid).1 (levels i t inside)) in
    let bound = price_all (λ (t : Term). up (t.weight *ℚ whole (tail_budget S plan t.p)) + 2) c.args.terms.now
    c.terms.term-index c.terms.sum (omega arith) c.terms.invariant.so_far in
    omega arith
