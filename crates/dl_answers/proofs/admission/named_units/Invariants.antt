use Rattle.dl_answers.proofs.Common.{◌≡◌, take, named_units}
use Rattle.dl_answers.proofs.admission.named_units.Given as goal

abbrev pub invariant-loop-asked : goal.invariant-loop-asked
invariant-loop-asked l = l.named.items ≡ named_units l.units (take l.asked-index l.asks)
