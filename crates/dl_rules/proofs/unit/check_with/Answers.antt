-- The name first, then the text, then the unit in whole buckets.
use Rattle.dl_rules.proofs.Common.{◌∙◌, length, sym, subst, breaks, duplicate_name, fault_with, StopsAt, AnswersWith, DuplicateName}
use Rattle.dl_rules.proofs.ProgramUnits.{name_rule, answer_on_grid}
use Rattle.dl_rules.proofs.Stops.{stopped, stop_first, stop_second}
use Rattle.dl_rules.proofs.unit.check_with.Goals as goal

pub returns-in_err-kept-clause-answer : goal.returns-in_err-kept-clause-answer
unfolding fault_with
returns-in_err-kept-clause-answer c = λ m read.
    let stop = c.in_err-kept.field-0.0 in
    stopped (AnswersWith c.args.settings.now c.args.before.now c.args.unit.now m) c.from_residual.result stop
    c.from_residual.ensures (stop_first (breaks (length c.args.before.now) DuplicateName
    (duplicate_name c.args.before.now c.args.unit.now)) _ stop (subst (λ o. StopsAt o stop)
    (name_rule c.args.before.now c.args.unit.now _ c.requires.names)
    (c.in_err-kept.ensures.fault _ c.check_name-named.ensures.fault)))

pub check_text-requires-clause-sev : goal.check_text-requires-clause-sev
check_text-requires-clause-sev c = rw c.in_ok-kept.ensures.same c.requires.sev

pub returns-in_err-grid-clause-answer : goal.returns-in_err-grid-clause-answer
unfolding fault_with
returns-in_err-grid-clause-answer c = λ m read.
    let stop = c.in_err-grid.field-0.0 in
    stopped (AnswersWith c.args.settings.now c.args.before.now c.args.unit.now m) c.from_residual-in_err-grid.result stop
    c.from_residual-in_err-grid.ensures (stop_second (breaks (length c.args.before.now) DuplicateName
    (duplicate_name c.args.before.now c.args.unit.now)) _ stop
    (sym (name_rule c.args.before.now c.args.unit.now _ c.requires.names)
    ∙ c.in_ok-kept.ensures.fault _ c.check_name-named.ensures.fault)
    (stop_first _ _ stop (c.in_err-grid.ensures.fault m (rw c.in_ok-kept.ensures.same read))))

pub returns-clause-answer : goal.returns-clause-answer
returns-clause-answer c = λ m read.
    let here = rw (← c.in_ok-kept.ensures.same) at read in
    answer_on_grid c.args.settings.now c.args.before.now c.args.unit.now m c.in_ok-grid.grid (c.in_ok-grid.ensures.same m here)
    (sym (name_rule c.args.before.now c.args.unit.now _ c.requires.names)
    ∙ c.in_ok-kept.ensures.fault _ c.check_name-named.ensures.fault)
    (c.in_ok-grid.ensures.fault m here) c.check_grid.result c.check_grid.ensures
