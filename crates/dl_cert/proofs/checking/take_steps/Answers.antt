use Rattle.dl_cert.proofs.Common.{arith}
use Rattle.dl_cert.proofs.Endings.{steps_before}
use Rattle.dl_cert.proofs.checking.take_steps.Goals as goal

pub overflow_cast-number : goal.overflow_cast-number
overflow_cast-number c = omega (arith, steps_before c.args.of.now.text.now c.lines.offset c.lines.invariant.0)
