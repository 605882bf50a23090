use Rattle.dl_sources.proofs.Common.{arith, ◌also◌, AreMeansOf}
use Rattle.dl_sources.proofs.ReadAs.{unit_on_there}
use Rattle.dl_sources.proofs.Taken.{means_taken, no_means, all_taken}
use Rattle.dl_sources.proofs.outcomes.unit_means.Goals as goal

pub loop-i-init : goal.loop-i-init
loop-i-init g c = no_means c.args.plan.now.cells c.new-means.ensures.items

pub mean_of-requires : goal.mean_of-requires
mean_of-requires g c =
    (omega arith)
    also unit_on_there c.loop-i.i c.as_slice-units.ensures c.index-units-i.is c.loop-i-test.true c.requires.at

pub loop-i-preserved : goal.loop-i-preserved
loop-i-preserved g c =
    means_taken c.args.plan.now.cells _ c.loop-i.i c.loop-i-test.true c.index-units-i.is c.loop-i.invariant
    c.in_ok-mean.ensures.mean c.in_ok-mean.ensures.small c.in_ok-push.ensures.items

pub returns : goal.returns
returns g c =
    all_taken (λ us. AreMeansOf c.args.plan.now.cells us c.loop-i.means.items) c.loop-i.i c.as_slice-units.ensures (omega arith)
    c.loop-i.invariant
