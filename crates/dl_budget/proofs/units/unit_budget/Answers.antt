use Rattle.dl_budget.proofs.Common.{arith, new_zero}
use Rattle.dl_budget.proofs.units.unit_budget.Goals as goal

pub none_budget-requires-clause-changed : goal.none_budget-requires-clause-changed
none_budget-requires-clause-changed g c = (c.in-Some.field-0, new_zero c.requires.valid.0 c.args.unit.now c.in-Some.field-0 c.requires.valid.1 c.in-Some.is)

pub returns-in-Some-clause-kind : goal.returns-in-Some-clause-kind
returns-in-Some-clause-kind g c = rw c.in-Some.is (omega arith)

pub returns-in-None-clause-kind : goal.returns-in-None-clause-kind
returns-in-None-clause-kind g c = rw c.in-None.is (omega arith)
