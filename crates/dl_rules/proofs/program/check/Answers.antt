-- A unit too many first, then the names of severities; then the units in turn.
use Rattle.dl_rules.proofs.Common.{◌∙◌, arith, sym, IsCheckOf}
use Rattle.dl_rules.proofs.ProgramUnits.{fault_of_units, fault_of_many, fault_of_names, few_units}
use Rattle.dl_rules.proofs.Stops.{stopped}
use Rattle.dl_rules.proofs.program.check.Goals as goal

pub returns-in-Some : goal.returns-in-Some
returns-in-Some c =
    rw (c.typing.ensures, c.bounds_asked-most.ensures.value) (fault_of_many c.args.program.now c.args.settings.now c.in-Some.span
    (rw c.as_slice.ensures at (sym (rw c.bounds_asked-most.ensures.value at c.too_many_units.ensures) ∙ c.in-Some.is)))

pub returns-in_err-check_severities : goal.returns-in_err-check_severities
returns-in_err-check_severities c =
    let stop = c.in_err-check_severities.field-0.0 in
    stopped (IsCheckOf c.args.program.now c.args.settings.now) c.from_residual.result stop c.from_residual.ensures
    (fault_of_names c.args.program.now c.args.settings.now
    (rw c.as_slice.ensures at (sym (rw c.bounds_asked-most.ensures.value at c.too_many_units.ensures) ∙ c.in_default.is)) stop
    (rw c.as_slice-sevs.ensures at c.in_err-check_severities.ensures))

pub check_units-requires-clause-few : goal.check_units-requires-clause-few
check_units-requires-clause-few c =
    rw c.as_slice-2.ensures (omega (
      arith,
      few_units _ c.args.program.now.units (rw c.as_slice.ensures at (sym c.too_many_units.ensures ∙ c.in_default.is)),
      c.bounds_asked-most.ensures.bounds.units,
    ))

pub returns-in_err-units : goal.returns-in_err-units
returns-in_err-units c =
    let stop = c.in_err-units.field-0.0 in
    stopped (IsCheckOf c.args.program.now c.args.settings.now) c.from_residual-in_err-units.result stop
    c.from_residual-in_err-units.ensures (fault_of_units c.args.program.now c.args.settings.now
    (rw c.as_slice.ensures at (sym (rw c.bounds_asked-most.ensures.value at c.too_many_units.ensures) ∙ c.in_default.is)) stop
    (rw c.as_slice-sevs.ensures at c.in_ok-check_severities.ensures)
    (rw (c.as_slice-sevs.ensures, c.as_slice-2.ensures) at c.in_err-units.ensures))

pub planned-requires-clause-few : goal.planned-requires-clause-few
planned-requires-clause-few c = rw c.as_slice.ensures at (sym (rw c.bounds_asked-most.ensures.value at c.too_many_units.ensures) ∙ c.in_default.is)

pub planned-requires-clause-fresh : goal.planned-requires-clause-fresh
planned-requires-clause-fresh c = rw c.as_slice-sevs.ensures at c.in_ok-check_severities.ensures

pub planned-requires-clause-units : goal.planned-requires-clause-units
planned-requires-clause-units c = rw (c.as_slice-sevs.ensures, c.as_slice-2.ensures) at c.in_ok-units.ensures
