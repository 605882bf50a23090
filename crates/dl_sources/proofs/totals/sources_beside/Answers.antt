use Rattle.dl_sources.proofs.Common.{arith, ap, length, few_cells, IfOk-weaker, ◌also◌}
use Rattle.dl_sources.proofs.Scales.{plan_scale}
use Rattle.dl_sources.proofs.SumLaws.{are_others, is_total, long_enough}
use Rattle.dl_sources.proofs.totals.sources_beside.Goals as goal

pub beside-requires : goal.beside-requires
beside-requires g c = omega (arith, c.requires.of.budgets.as_many, ap length c.as_slice.ensures)

pub total_and_others-requires : goal.total_and_others-requires
total_and_others-requires g c =
    let plan = c.args.of.now.plan.now in
    let valid = c.requires.of.at.at.valid in
    let scale = plan_scale g.row.B plan.cells c.requires.of.at.at.scale in
    let many = c.requires.units.as_many in
    (omega (arith, scale.least, scale.most)) also (omega (arith, scale.least, scale.most))
    also (omega (arith, many, valid.some)) also (omega (arith, many, valid.few))
    also (omega (arith, many, ap length c.as_slice-2.ensures.value, c.in_ok-asked.ensures.as_many, ap length c.as_slice.ensures))
    also (few_cells plan valid).0 also long_enough plan.cells plan.units c.args.units.now c.requires.units

pub sources_of-requires : goal.sources_of-requires
sources_of-requires g c =
    (omega arith) also (omega arith) also c.requires.of
    also is_total c.requires.of.at.at.valid c.requires.of.at.independent c.requires.units c.in_ok-sums.ensures.total
    also are_others c.requires.of.at.at.valid c.requires.units c.in_ok-sums.ensures.others

pub returns-clause-sure : goal.returns-clause-sure
returns-clause-sure g c =
    IfOk-weaker c.sources_of.result _ _ (λ made sure all. sure (λ i inside some.
    (c.in_ok-sums.ensures.others.there i (omega (arith, inside, c.requires.units.as_many))).1
    (rw c.as_slice-2.ensures.value (c.in_ok-asked.ensures.all all i (omega (arith, inside, ap length c.as_slice.ensures)) some))))
    c.sources_of.ensures.sure
