use Rattle.dl_outcomes.proofs.Common.{◌≤◌, ◌^◌, arith, num_below, part_within, one_fits}
use Rattle.dl_outcomes.proofs.change.Change.new.Goals as goal

pub overflow_sub-den : goal.overflow_sub-den
overflow_sub-den g c = omega (arith, num_below c.args.p c.requires.below_one)

pub enclose-requires : goal.enclose-requires
enclose-requires g c =
    let within : c.from.result ≤ c.from-2.result = omega (arith, num_below c.args.p c.requires.below_one) in
    let part = part_within (2 ^ g.row.B) c.from.result c.from-2.result (omega arith) within in
    let small = one_fits g.row.B c.args.none.scale_below in
    (omega arith, (omega arith, (omega arith, (omega arith, (omega arith, (omega arith, omega (arith, part, small)))))))

pub invariant_of-result-clause-part : goal.invariant_of-result-clause-part
invariant_of-result-clause-part g c = omega arith

pub invariant_of-result-clause-at_0_small : goal.invariant_of-result-clause-at_0_small
invariant_of-result-clause-at_0_small g c =
    let within : c.from.result ≤ c.from-2.result = omega (arith, num_below c.args.p c.requires.below_one) in
    omega (arith, part_within (2 ^ g.row.B) c.from.result c.from-2.result (omega arith) within)

pub returns-clause-at_0_low : goal.returns-clause-at_0_low
returns-clause-at_0_low g c = cc

pub returns-clause-at_0_high : goal.returns-clause-at_0_high
returns-clause-at_0_high g c = cc
