use Rattle.dl_sources.proofs.Common.{arith, ap, length, subst, few_cells, ◌also◌, IsSumOfUnits}
use Rattle.dl_sources.proofs.ByHalves.{all_means, is_total_by_halves, some_total, sum_of_all, units_on}
use Rattle.dl_sources.proofs.halves.total_by_halves.Goals as goal

pub sum_of_units-requires : goal.sum_of_units-requires
sum_of_units-requires g c =
    let at = c.requires.of.at.at in
    (omega arith) also (omega arith) also units_on at c.as_slice-units.ensures
    also (omega (arith, at.valid.some, ap length c.as_slice-units.ensures)) also (omega arith)

pub sum_of_both-requires : goal.sum_of_both-requires
sum_of_both-requires g c =
    (omega arith) also (few_cells c.args.of.now.plan.now c.requires.of.at.at.valid).0 also c.in_ok-rest.ensures.sum.cells
    also c.in_ok-one.ensures.cells

pub unreachable-requires : goal.unreachable-requires
unreachable-requires g c =
    let at = c.requires.of.at.at in
    let sum = c.in_ok-sum.ensures in
    let all = sum_of_all at c.is_some-apart.result c.in_ok-pooled.pooled c.as_slice-units.ensures c.is_some-apart.ensures
    c.in_ok-pooled.ensures c.in_ok-rest.ensures.sum c.in_ok-one.ensures sum.cells sum.encloses in
    some_total at c.in_ok-pooled.pooled (subst (IsSumOfUnits c.args.of.now.plan.now.cells _) c.in-None.is all)

pub returns-clause-total : goal.returns-clause-total
returns-clause-total g c narrow =
    let at = c.requires.of.at.at in
    let sum = c.in_ok-sum.ensures in
    let all = sum_of_all at c.is_some-apart.result c.in_ok-pooled.pooled c.as_slice-units.ensures c.is_some-apart.ensures
    c.in_ok-pooled.ensures c.in_ok-rest.ensures.sum c.in_ok-one.ensures sum.cells sum.encloses in
    is_total_by_halves at c.in_ok-pooled.pooled c.requires.of.at.independent c.in_ok-pooled.ensures
    (subst (IsSumOfUnits c.args.of.now.plan.now.cells _) c.in-Some.is all) narrow

pub returns-clause-means : goal.returns-clause-means
returns-clause-means g c =
    all_means c.requires.of.at.at c.as_slice-units.ensures c.requires.none c.in_ok-rest.ensures.means
