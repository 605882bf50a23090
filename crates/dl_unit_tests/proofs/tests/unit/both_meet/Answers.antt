use Rattle.std.proofs.Common.{arith}
use Rattle.dl_unit_tests.proofs.TestLaws.{at_most_4096}
use Rattle.dl_unit_tests.proofs.tests.unit.both_meet.Goals as goal

pub poisson_meets-requires-clause-within : goal.poisson_meets-requires-clause-within
poisson_meets-requires-clause-within g c =
    at_most_4096 c.fraction-mean.result c.min.result c.clamp.result c.fraction-mean.ensures.value
    (omega (arith, c.clamp.ensures)) (omega (arith, c.min.ensures))
