use Rattle.std.specs.Prelude.{not}
use Rattle.dl_sources.proofs.Common.{ap, arith, sym, ◌∙◌, ◌also◌, AreOutcomesOf, UnitOfPlan, can_share, rest_of}
use Rattle.dl_sources.proofs.ReadAs.{unit_on_there}
use Rattle.dl_sources.proofs.Taken.{kept_grid, left_out, means_taken, no_grids, no_means, all_taken}
use Rattle.dl_sources.proofs.outcomes.outcomes_of_rest.Goals as goal

pub loop-i-init : goal.loop-i-init
loop-i-init g c = record {
  grids = no_grids c.args.plan.now.cells c.new-made.ensures.grids;
  means = no_means c.args.plan.now.cells c.new-made.ensures.means;
}

pub mean_of-requires : goal.mean_of-requires
mean_of-requires g c =
    (omega arith)
    also unit_on_there c.loop-i.i c.as_slice-units.ensures c.index-units-i.is c.loop-i-test.true c.requires.at

pub outcome_of-requires : goal.outcome_of-requires
outcome_of-requires g c =
    (omega arith) also unit_on_there c.loop-i.i c.as_slice-units.ensures c.index-units-i.is c.loop-i-test.true c.requires.at

pub loop-i-preserved-then-can_share : goal.loop-i-preserved-then-can_share
loop-i-preserved-then-can_share g c =
    let cells = c.args.plan.now.cells in
    let i = c.loop-i.invariant in record {
      grids = left_out cells (λ (u : UnitOfPlan). not (can_share u)) _ _ _ _ c.loop-i-test.true c.index-units-i.is
          (ap not (sym c.can_share.ensures ∙ c.if-can_share.true)) i.grids;
      means = means_taken cells _ c.loop-i.i c.loop-i-test.true c.index-units-i.is i.means c.in_ok-mean.ensures.mean
          c.in_ok-mean.ensures.small c.in_ok-push.ensures.items;
    }

pub loop-i-preserved : goal.loop-i-preserved
loop-i-preserved g c =
    let cells = c.args.plan.now.cells in
    let i = c.loop-i.invariant in
    let one = c.in_ok-one.ensures in
    let pushed = c.in_ok-push-2.ensures in record {
      grids = rw pushed.grids (kept_grid cells (λ (u : UnitOfPlan). not (can_share u)) _ _ _ _ _ c.loop-i-test.true
          c.index-units-i.is (ap not (sym c.can_share.ensures ∙ c.if-can_share.false)) i.grids one.grid);
      means = means_taken cells _ c.loop-i.i c.loop-i-test.true c.index-units-i.is i.means one.mean one.small pushed.means;
    }

pub returns : goal.returns
returns g c =
    all_taken (λ us. AreOutcomesOf c.args.plan.now.cells (rest_of us) us c.loop-i.made) c.loop-i.i c.as_slice-units.ensures
    (omega arith) c.loop-i.invariant
