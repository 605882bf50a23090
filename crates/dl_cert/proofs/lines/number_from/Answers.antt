use Rattle.dl_cert.proofs.Common.{arith}
use Rattle.dl_cert.proofs.lines.number_from.Goals as goal

pub overflow_cast-result : goal.overflow_cast-result
overflow_cast-result c = omega (arith, c.in-Some.ensures.below)
