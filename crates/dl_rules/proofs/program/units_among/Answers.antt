-- Each unit adds its own part to the plan.
use Rattle.dl_rules.proofs.Common.{◌∙◌, ◌+◌, sym, subst, List, AnswersUnits, Ok, UnitAst, first_fault_of, UnitOfPlan}
use Rattle.dl_rules.proofs.ProgramUnits.{Planned, planned_more, planned_all}
use Rattle.dl_rules.proofs.Naming.{maps_more}
use Rattle.dl_rules.proofs.Stops.{stopped, turn_stopped}
use Rattle.dl_rules.proofs.program.units_among.Goals as goal

pub returns-in_err-unit : goal.returns-in_err-unit
returns-in_err-unit c =
    let stop = c.in_err-unit.field-0.0 in
    stopped (AnswersUnits c.args.settings.now c.args.port.now c.args.sevs.now c.args.units.now) c.from_residual.result stop
    c.from_residual.ensures (turn_stopped (first_fault_of c.args.settings.now c.args.port.now c.args.sevs.now)
    c.args.units.now c.units.at c.index-units-at.result c.units.invariant.planned.turned c.units-test.true
    c.index-units-at.is stop c.in_err-unit.ensures.answer)

pub units-preserved : goal.units-preserved
units-preserved c = record {
  planned = subst (Planned c.args.settings.now c.args.port.now c.args.sevs.now c.args.units.now (c.units.at + 1))
      (sym c.in_ok-push.ensures.items)
      (planned_more c.args.settings.now c.args.port.now c.args.sevs.now c.args.units.now c.units.at c.index-units-at.result c.units.made.items
      c.in_ok-unit.unit c.units.invariant.planned
      c.units-test.true c.index-units-at.is c.in_ok-unit.ensures.answer);
  names = c.in_ok-unit.ensures.names ∙ maps_more c.args.units.now c.units.at c.index-units-at.result c.units-test.true
      c.index-units-at.is (λ (v : UnitAst). v.name.text);
  known = c.in_ok-unit.ensures.known;
}

pub returns : goal.returns
returns c =
    subst (λ (made : List UnitOfPlan). AnswersUnits c.args.settings.now c.args.port.now c.args.sevs.now c.args.units.now (Ok made))
    (sym c.from_vec.ensures)
    (planned_all c.args.settings.now c.args.port.now c.args.sevs.now c.args.units.now c.units.at c.units.made.items c.units.invariant.planned
    c.units-test.false)
