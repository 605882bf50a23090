-- The severities so far, which have different names, and these.
use Rattle.dl_rules.proofs.Common.{◌≡◌, map, take, NoneTurned, fault_of_severity, severity_names}
use Rattle.dl_rules.proofs.severities.check_names.Given as goal

abbrev pub invariant-sevs : goal.invariant-sevs
invariant-sevs l = record {
  turned : NoneTurned fault_of_severity l.sevs l.at;
  names : map (λ name. name.now) l.names.keys ≡ severity_names (take l.at l.sevs);
}
