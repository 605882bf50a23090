use Rattle.std.proofs.Common.{◌≡◌, length}
use Rattle.dl_unit_tests.proofs.tests.totals.unit.Given as goal

abbrev pub invariant-loop-part : goal.invariant-loop-part
invariant-loop-part g l = length l.g ≡ 7
