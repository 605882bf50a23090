use Rattle.dl_product.proofs.Common.{arith}
use Rattle.dl_product.proofs.windows.end_of.Goals as goal

pub returns-then-xs-end-ne0-clause-zeros : goal.returns-then-xs-end-ne0-clause-zeros
returns-then-xs-end-ne0-clause-zeros c i past = c.loop-i.invariant i (omega (arith, past))
