use Rattle.dl_budget.proofs.Common.{◌*◌, ◌^◌, ◌≤◌, arith, mul-le-mul, new_zero}
use Rattle.dl_budget.proofs.units.unit_mean_budget.Goals as goal

pub whole_mean-requires-clause-changed : goal.whole_mean-requires-clause-changed
whole_mean-requires-clause-changed g c = (c.in-Some.field-0, new_zero c.args.cells c.args.unit.now c.in-Some.field-0 c.requires.valid c.in-Some.is)

pub none_budget-requires-clause-changed : goal.none_budget-requires-clause-changed
none_budget-requires-clause-changed g c = (c.in-Some.field-0, new_zero c.args.cells c.args.unit.now c.in-Some.field-0 c.requires.valid c.in-Some.is)

pub returns-in-Some-clause-kind : goal.returns-in-Some-clause-kind
returns-in-Some-clause-kind g c =
    let mean : 306 * c.whole_mean.result ≤ 306 * 2 ^ 34 = omega arith in
    let none : c.none_budget.result ≤ 142 * 2 ^ 13 = omega arith in
    rw c.in-Some.is (omega (arith, mul-le-mul mean none))

pub returns-in-None-clause-kind : goal.returns-in-None-clause-kind
returns-in-None-clause-kind g c = rw c.in-None.is (omega arith)
