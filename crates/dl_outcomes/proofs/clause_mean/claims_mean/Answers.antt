use Rattle.dl_outcomes.proofs.Common.{arith}
use Rattle.dl_outcomes.proofs.MeanSizes.{amounts_near, unit_small, claims_fit}
use Rattle.dl_outcomes.proofs.MeanEnds.{ceiling_within, claims_hold, nearest_ends}
use Rattle.dl_outcomes.proofs.clause_mean.claims_mean.Goals as goal

pub mean_parts-num-requires-clause-near : goal.mean_parts-num-requires-clause-near
mean_parts-num-requires-clause-near g c = amounts_near c.requires.valid.0 c.args.unit.now c.requires.valid.1

pub enclose-requires : goal.enclose-requires
enclose-requires g c =
    let parts = c.mean_parts-num.ensures in
    let valid = c.requires.valid in
    let small = unit_small g.row.B c.args.unit.now c.mean_parts-num.result.0 c.mean_parts-num.result.1
    valid.0 valid.1 parts.positive parts.value in
    let fits = claims_fit g.row.B valid.0 c.requires.scale_below in
    (omega arith, (omega arith, (omega arith, (parts.positive, (omega arith, (omega arith, omega arith))))))

pub returns-clause-holds : goal.returns-clause-holds
returns-clause-holds g c =
    claims_hold c.args.unit.now c.enclose.result c.mean_parts-num.result.0 c.mean_parts-num.result.1 c.requires.valid
    c.mean_parts-num.ensures.value c.enclose.ensures.holds

pub returns-clause-ends : goal.returns-clause-ends
returns-clause-ends g c =
    let parts = c.mean_parts-num.ensures in
    nearest_ends c.args.unit.now c.enclose.result c.mean_parts-num.result.0 c.mean_parts-num.result.1 parts.positive
    parts.value c.enclose.ensures.low c.enclose.ensures.high

pub returns-clause-small : goal.returns-clause-small
returns-clause-small g c = λ cells valid.
    let small = unit_small g.row.B c.args.unit.now c.mean_parts-num.result.0 c.mean_parts-num.result.1 cells valid
    c.mean_parts-num.ensures.positive c.mean_parts-num.ensures.value in omega arith

pub returns-clause-few : goal.returns-clause-few
returns-clause-few g c = λ n within. ceiling_within c.args.unit.now c.enclose.result n (returns-clause-ends g c) within
