use Rattle.dl_sources.proofs.Common.{arith, ◌also◌, AreOutcomesOf}
use Rattle.dl_sources.proofs.ReadAs.{unit_on_there}
use Rattle.dl_sources.proofs.Taken.{grids_taken, means_taken, no_grids, no_means, all_taken}
use Rattle.dl_sources.proofs.outcomes.unit_outcomes.Goals as goal

pub loop-i-init : goal.loop-i-init
loop-i-init g c = record {
  grids = no_grids c.args.plan.now.cells c.new-made.ensures.grids;
  means = no_means c.args.plan.now.cells c.new-made.ensures.means;
}

pub outcome_after-requires : goal.outcome_after-requires
outcome_after-requires g c =
    (omega arith) also (omega arith)
    also unit_on_there c.loop-i.i c.as_slice-units.ensures c.index-units-i.is c.loop-i-test.true c.requires.at
    also c.loop-i.invariant

pub loop-i-preserved : goal.loop-i-preserved
loop-i-preserved g c =
    let cells = c.args.plan.now.cells in
    let i = c.loop-i.invariant in
    let one = c.in_ok-one.ensures in
    let pushed = c.in_ok-push.ensures in record {
      grids = grids_taken cells _ c.loop-i.i c.loop-i-test.true c.index-units-i.is i.grids one.grid pushed.grids;
      means = means_taken cells _ c.loop-i.i c.loop-i-test.true c.index-units-i.is i.means one.mean one.small pushed.means;
    }

pub returns : goal.returns
returns g c =
    all_taken (λ us. AreOutcomesOf c.args.plan.now.cells us us c.loop-i.made) c.loop-i.i c.as_slice-units.ensures (omega arith)
    c.loop-i.invariant
