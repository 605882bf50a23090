use Rattle.dl_recursion.proofs.Common.{arith}
use Rattle.dl_recursion.proofs.Raising.{only_first_begins}
use Rattle.dl_recursion.proofs.passes.begin.Goals as goal

pub returns-clause-round : goal.returns-clause-round
returns-clause-round c =
    rw (c.in_ok-low.ensures, c.in_ok-high.ensures, c.from.ensures)
    (only_first_begins c.args.cells c.args.shift c.requires.some (omega (arith, c.requires.few)))
