use Rattle.dl_sources.proofs.Common.{[], arith, subst, sym, ◌∙◌, ◌also◌, AreUnitGrids, IsUnitGrid, get_or_default, true_shares, rest_of}
use Rattle.dl_sources.proofs.ReadAs.{unit_on_there}
use Rattle.dl_sources.proofs.Taken.{all_left, all_taken, first_left, grids_taken, no_grids, some_left}
use Rattle.dl_sources.proofs.outcomes.with_pooled.Goals as goal

pub loop-i-init : goal.loop-i-init
loop-i-init g c = record {
  made = no_grids c.args.plan.now.cells c.new-made.ensures.items;
  left = subst (λ us. AreUnitGrids c.args.plan.now.cells (rest_of us) c.args.rest.items) (sym c.as_slice-units.ensures)
      c.requires.rest;
}

pub remove-grid-requires : goal.remove-grid-requires
remove-grid-requires g c =
    let some = some_left c.args.plan.now.cells _ c.loop-i.i c.loop-i-test.true c.index-units-i.is c.loop-i.invariant.left
    (sym c.can_share.ensures ∙ c.if-not-can_share.true) in
    omega (arith, some, c.loop-i.rest.ok)

pub pooled_after-requires : goal.pooled_after-requires
pooled_after-requires g c =
    (omega arith)
    also unit_on_there c.loop-i.i c.as_slice-units.ensures c.index-units-i.is c.loop-i-test.true c.requires.at
    also true_shares _ (sym c.can_share.ensures ∙ c.if-not-can_share.false)
    also rw c.as_slice.ensures.value c.loop-i.invariant.made

pub loop-i-preserved-then-not-can_share : goal.loop-i-preserved-then-not-can_share
loop-i-preserved-then-not-can_share g c =
    let cells = c.args.plan.now.cells in
    let i = c.loop-i.invariant in
    let stays = sym c.can_share.ensures ∙ c.if-not-can_share.true in
    let some = some_left cells _ c.loop-i.i c.loop-i-test.true c.index-units-i.is i.left stays in
    let first = first_left cells _ c.loop-i.i c.loop-i-test.true c.index-units-i.is i.left stays in
    let here = subst (IsUnitGrid cells _) (sym (c.remove-grid.ensures.value ∙ get_or_default c.loop-i.rest.items 0 _ [] some))
    first.0 in record {
      made = grids_taken cells _ c.loop-i.i c.loop-i-test.true c.index-units-i.is i.made here c.in_ok-push.ensures.items;
      left = rw c.remove-grid.ensures.items first.1;
    }

pub loop-i-preserved : goal.loop-i-preserved
loop-i-preserved g c =
    let cells = c.args.plan.now.cells in
    let i = c.loop-i.invariant in record {
      made = grids_taken cells _ c.loop-i.i c.loop-i-test.true c.index-units-i.is i.made c.in_ok-grid.ensures
          c.in_ok-push-2.ensures.items;
      left = all_left cells _ c.loop-i.i c.loop-i-test.true c.index-units-i.is i.left
          (sym c.can_share.ensures ∙ c.if-not-can_share.false);
    }

pub returns : goal.returns
returns g c =
    all_taken (λ us. AreUnitGrids c.args.plan.now.cells us c.loop-i.made.items) c.loop-i.i c.as_slice-units.ensures
    (omega arith) c.loop-i.invariant.made
