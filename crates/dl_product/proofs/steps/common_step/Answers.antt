use Rattle.dl_product.proofs.Apart.{finer, some_step}
use Rattle.dl_product.proofs.steps.common_step.Goals as goal

pub returns-clause-first : goal.returns-clause-first
returns-clause-first c =
    rw c.max.ensures (some_step c.step_with-step.result c.args.a.now
    (finer c.step_with-step.result c.step_with.result c.args.a.now c.step_with-step.ensures.divides c.step_with.ensures.apart))
