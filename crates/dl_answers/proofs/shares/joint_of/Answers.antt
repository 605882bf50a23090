use Rattle.dl_answers.proofs.Common.{arith, few_cells}
use Rattle.dl_answers.proofs.Scales.{share_fits}
use Rattle.dl_answers.proofs.shares.joint_of.Goals as goal

pub returns-clause-joint : goal.returns-clause-joint
returns-clause-joint g c =
    let from = c.requires.part.source in record {
      holds = c.joint.ensures.holds _ _ (from.gives c.args.at c.requires.inside)
          (c.law_plan_joint_most.ensures.most c.args.part.now.i c.args.at);
      narrow = omega (arith, c.joint.result.ordered, c.joint.ensures.width, from.narrow);
    }

pub returns-clause-divisible : goal.returns-clause-divisible
returns-clause-divisible g c =
    let is = c.requires.part in
    let plan = c.args.part.now.plan.now in
    c.joint.ensures.divisible (share_fits g.row.B plan.cells c.args.at is.unit.at.scale
    (few_cells plan is.unit.at.valid).1
    (omega (arith, c.requires.inside, is.within)))
