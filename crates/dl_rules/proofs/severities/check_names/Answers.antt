-- The severities in turn.
use Rattle.dl_rules.proofs.Common.{◌∙◌, [], ◌∷◌, ◌++◌, ap, sym, subst, in_turn, StopsAt, HasFault, fault_of_severity, turn_ended, turn_passed, SevDef}
use Rattle.dl_rules.proofs.Naming.{maps_more}
use Rattle.dl_rules.proofs.Stops.{stopped, turn_stopped, severity_rule}
use Rattle.dl_rules.proofs.severities.check_names.Goals as goal

pub returns-in_err-check_name : goal.returns-in_err-check_name
returns-in_err-check_name c =
    let stop = c.in_err-check_name.field-0.0 in
    stopped (HasFault (in_turn fault_of_severity [] c.args.sevs.now)) c.from_residual.result stop c.from_residual.ensures
    (turn_stopped fault_of_severity c.args.sevs.now c.sevs.at c.index-sevs-at.result c.sevs.invariant.turned
    c.sevs-test.true c.index-sevs-at.is stop (subst (λ fault. StopsAt fault stop)
    (severity_rule c.args.sevs.now c.sevs.at c.index-sevs-at.result _ c.sevs-test.true c.sevs.invariant.names)
    c.in_err-check_name.ensures.fault))

pub sevs-preserved : goal.sevs-preserved
sevs-preserved c = record {
  turned = turn_passed fault_of_severity c.args.sevs.now c.sevs.at c.index-sevs-at.result c.sevs.invariant.turned
      c.sevs-test.true c.index-sevs-at.is (sym c.in_ok-check_name.ensures.fault
      ∙ severity_rule c.args.sevs.now c.sevs.at c.index-sevs-at.result _ c.sevs-test.true c.sevs.invariant.names);
  names = c.in_ok-check_name.ensures.names
      ∙ ap (λ names. names ++ c.index-sevs-at.result.name.text ∷ []) c.sevs.invariant.names ∙ maps_more c.args.sevs.now
      c.sevs.at c.index-sevs-at.result c.sevs-test.true c.index-sevs-at.is (λ (v : SevDef). v.name.text);
}

pub returns : goal.returns
returns c = sym (turn_ended fault_of_severity c.args.sevs.now c.sevs.at c.sevs.invariant.turned c.sevs-test.false)
