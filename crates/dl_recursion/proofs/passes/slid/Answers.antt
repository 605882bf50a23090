use Rattle.dl_recursion.proofs.Common.{arith}
use Rattle.dl_recursion.proofs.Raising.{window_slides}
use Rattle.dl_recursion.proofs.passes.slid.Goals as goal

pub overflow_sub-result : goal.overflow_sub-result
overflow_sub-result c = omega (arith, window_slides c.args.cells.now c.args.s c.args.run c.requires.some)

pub returns : goal.returns
returns c = omega (arith, window_slides c.args.cells.now c.args.s c.args.run c.requires.some)
