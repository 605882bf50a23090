-- The rest of the severities has the name that all of them have.
use Rattle.dl_rules.proofs.Common.{◌≡◌, drop, named}
use Rattle.dl_rules.proofs.severities.named.Given as goal

abbrev pub invariant-loop-sev : goal.invariant-loop-sev
invariant-loop-sev l = named (drop l.sev-index l.sevs) l.name ≡ named l.sevs l.name
