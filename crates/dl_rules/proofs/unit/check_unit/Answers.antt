-- The mixture that the severity is decides.
use Rattle.dl_rules.proofs.Common.{AnswersUnit}
use Rattle.dl_rules.proofs.Stops.{stopped}
use Rattle.dl_rules.proofs.unit.check_unit.Goals as goal
use Rattle.dl_rules.proofs.ProgramUnits.{answer_stopped, answer_with, answer_unknown}

pub check_with-requires-clause-sev : goal.check_with-requires-clause-sev
check_with-requires-clause-sev c =
    let sev = rw c.in-Some.is at c.in_ok-sev.ensures.read in
    (sev.mix, sev.read)

pub returns-in_err-made-in-Some-clause-answer : goal.returns-in_err-made-in-Some-clause-answer
returns-in_err-made-in-Some-clause-answer c =
    let sev = rw c.in-Some.is at c.in_ok-sev.ensures.read in
    let stop = c.in_err-made-in-Some.field-0.0 in
    stopped (AnswersUnit c.args.settings.now c.args.port.now c.args.sevs.now c.args.before.now c.args.unit.now)
    c.from_residual-in_err-made-in-Some.result stop c.from_residual-in_err-made-in-Some.ensures
    (answer_stopped c.args.settings.now c.args.port.now c.args.sevs.now c.args.before.now c.args.unit.now sev.mix stop
    sev.there (c.in_err-made-in-Some.ensures.answer sev.mix sev.read))

pub returns-in_ok-made-in-Some-clause-answer : goal.returns-in_ok-made-in-Some-clause-answer
returns-in_ok-made-in-Some-clause-answer c =
    let sev = rw c.in-Some.is at c.in_ok-sev.ensures.read in
    answer_with c.args.settings.now c.args.port.now c.args.sevs.now c.args.before.now c.args.unit.now sev.mix
    c.in_ok-made-in-Some.made c.unless_broken.result sev.there (c.in_ok-made-in-Some.ensures.answer sev.mix sev.read)
    (rw c.common_unit-span.ensures at (c.unless_broken.ensures.fault _ c.broken.ensures)) c.unless_broken.ensures.same

pub returns-in-None-clause-answer : goal.returns-in-None-clause-answer
returns-in-None-clause-answer c =
    rw (c.typing.ensures, c.body_span.ensures) (answer_unknown c.args.settings.now c.args.port.now c.args.sevs.now
    c.args.before.now c.args.unit.now (rw c.in-None.is at c.in_ok-sev.ensures.read))
