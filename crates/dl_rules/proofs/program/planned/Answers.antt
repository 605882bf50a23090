-- What the portfolio breaks comes last.
use Rattle.dl_rules.proofs.Common.{Ok, refl, sym, subst, AnswersUnits, IfSome, List, HasCommonFactor, UnitOfPlan, StopsAt, IsCheckOf, IsUnitOf, fault_of_port, bounds_asked, arith, AllZip-long}
use Rattle.dl_rules.proofs.ProgramUnits.{check_stopped, fault_of_rest, few_units, plan_of_units}
use Rattle.dl_rules.proofs.Stops.{stop_first, stop_second, stopped}
use Rattle.dl_rules.proofs.UnitFacts.{asked_within}
use Rattle.dl_rules.proofs.program.planned.Goals as goal

pub shared_shape-requires : goal.shared_shape-requires
shared_shape-requires c = record {
  head = c.requires.formed.head;
  units = subst
      (λ us. AnswersUnits c.args.settings.now c.args.program.now.port c.args.program.now.sevs c.args.program.now.units (Ok us))
      (sym c.as_slice.ensures) c.requires.units;
}

pub returns-in_err-common : goal.returns-in_err-common
returns-in_err-common c =
    let stop = c.in_err-common.field-0.0 in
    stopped (IsCheckOf c.args.program.now c.args.settings.now) c.from_residual.result stop c.from_residual.ensures
    (check_stopped c.args.program.now c.args.settings.now stop (subst (λ o. StopsAt o stop)
    (sym (fault_of_rest c.args.program.now c.args.settings.now c.requires.few c.args.units c.requires.fresh
    c.requires.units)) (stop_first (fault_of_port c.args.settings.now c.args.program.now) _ stop
    c.in_err-common.ensures.fault)))

pub check_total-requires-clause-few : goal.check_total-requires-clause-few
check_total-requires-clause-few c =
    rw c.as_slice-2.ensures (omega (
      arith,
      AllZip-long (IsUnitOf c.args.settings.now.bs c.args.program.now.sevs) c.args.program.now.units c.args.units
          c.requires.units.1,
      few_units (bounds_asked c.args.settings.now).units c.args.program.now.units c.requires.few,
      (asked_within c.args.settings.now).units,
    ))

pub returns-in_err-check_total : goal.returns-in_err-check_total
returns-in_err-check_total c =
    let stop = c.in_err-check_total.field-0.0 in
    stopped (IsCheckOf c.args.program.now c.args.settings.now) c.from_residual-in_err-check_total.result stop
    c.from_residual-in_err-check_total.ensures (check_stopped c.args.program.now c.args.settings.now stop
    (subst (λ o. StopsAt o stop) (sym (fault_of_rest c.args.program.now c.args.settings.now c.requires.few c.args.units
    c.requires.fresh c.requires.units)) (stop_second (fault_of_port c.args.settings.now c.args.program.now) _ stop
    c.in_ok-common.ensures.fault c.in_err-check_total.ensures)))

pub returns : goal.returns
returns c =
    plan_of_units c.args.program.now c.args.settings.now (record {
      bs = c.args.settings.now.bs;
      cells = c.cells.result;
      units = c.args.units;
      common = c.in_ok-common.common;
    }) refl c.cells.ensures c.in_ok-common.ensures.shape
    (subst (λ (us : List UnitOfPlan). IfSome c.in_ok-common.common (λ r. HasCommonFactor r us)) c.as_slice.ensures
    c.in_ok-common.ensures.factor)
    c.requires.set c.requires.formed (omega (
      arith,
      few_units (bounds_asked c.args.settings.now).units c.args.program.now.units c.requires.few,
      (asked_within c.args.settings.now).units,
    )) c.requires.few c.requires.fresh
    c.requires.units c.in_ok-common.ensures.fault c.in_ok-check_total.ensures
