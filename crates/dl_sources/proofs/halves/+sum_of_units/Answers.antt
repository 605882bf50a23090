use Rattle.dl_sources.proofs.Common.{◌/◌, arith, if_ok_two, IfOk-weaker, ◌also◌}
use Rattle.dl_sources.proofs.ByHalves.{both_means, both_sums, some_cells}
use Rattle.dl_sources.proofs.halves.+sum_of_units.Goals as goal

pub sum_of_both-requires : goal.sum_of_both-requires
sum_of_both-requires g t c =
    (omega arith)
    also some_cells c.args.units.now c.requires.on (omega (arith, c.requires.some, c.requires.within))
    also c.in_ok-first.ensures.sum.cells also c.in_ok-second.ensures.sum.cells

pub returns-clause-sum : goal.returns-clause-sum
returns-clause-sum g t c =
    if_ok_two c.sum_of_both.result _ _ _ (λ sum long encloses.
    both_sums c.args.units.now c.args.from (c.args.many / 2) c.args.many (omega arith) c.requires.on c.args.pooled
    c.in_ok-first.ensures.sum c.in_ok-second.ensures.sum long encloses) c.sum_of_both.ensures.cells
    c.sum_of_both.ensures.encloses

pub returns-clause-means : goal.returns-clause-means
returns-clause-means g t c =
    IfOk-weaker c.sum_of_both.result _ _ (λ sum long.
    both_means c.args.units.now c.args.from (c.args.many / 2) c.args.many (omega arith) c.requires.on
    c.in_ok-first.ensures.means c.in_ok-second.ensures.means) c.sum_of_both.ensures.cells
