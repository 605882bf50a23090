use Rattle.dl_cert.proofs.Common.{◌≡◌, take, map, unit_parts}
use Rattle.dl_cert.proofs.units.targets_of.Given as goal

abbrev pub invariant-loop-unit : goal.invariant-loop-unit
invariant-loop-unit l = l.targets.items ≡ map unit_parts (take l.unit-index l.units)
