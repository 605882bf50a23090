use Rattle.std.proofs.Common.{[], arith}
use Rattle.dl_model.specs.Prelude.{aggregates_of, loss_of}
use Rattle.dl_shares.proofs.Common.{subst, sym, length-map, plan_units, budget_here, read_unit, IsGridOfUnit}
use Rattle.dl_shares.proofs.Origins.{beside_narrow, horizon_there, plan_scale, read_as, scale_least, source_alone}
use Rattle.dl_shares.proofs.drawn.beside.Goals as goal

pub unit_budget-requires-clause-horizon : goal.unit_budget-requires-clause-horizon
unit_budget-requires-clause-horizon g c =
    horizon_there c.args.i c.as_slice.ensures c.index-as_slice-i.is c.requires.unit.unit c.requires.unit.at.valid

pub invariant_of-from : goal.invariant_of-from
invariant_of-from g c =
    let plan = c.args.plan.now in
    let least = scale_least g.row.B (plan_scale g.row.B plan.cells c.requires.unit.at.scale) in
    let own : IsGridOfUnit plan c.args.i c.index-as_slice-i-2.result = subst (IsGridOfUnit plan c.args.i)
    (sym (read_as c.args.i [] c.as_slice-2.ensures.value c.index-as_slice-i-2.is c.requires.grids.there)) c.requires.grids.unit in
    let here = budget_here _ _ plan.units c.args.i _ c.index-as_slice-i.result c.requires.unit.unit
    (read_unit _ plan.units c.args.i _ c.as_slice.ensures c.index-as_slice-i.is) c.unit_budget.ensures.value in record {
      alike = omega (arith, own.cells, c.requires.grids.others.cells);
      narrow = omega (arith, own.narrow, here, c.unit_budget.ensures.small, least);
      others_narrow = omega (arith, c.requires.grids.others.narrow, c.others_budget.ensures.value, c.others_budget.ensures.small, least);
    }

pub returns-clause-source : goal.returns-clause-source
returns-clause-source g c =
    let plan = c.args.plan.now in
    let own : IsGridOfUnit plan c.args.i c.index-as_slice-i-2.result = subst (IsGridOfUnit plan c.args.i)
    (sym (read_as c.args.i [] c.as_slice-2.ensures.value c.index-as_slice-i-2.is c.requires.grids.there)) c.requires.grids.unit in
    source_alone _ c.requires.grids.independent (c.law_beside.ensures (aggregates_of plan) c.args.i
    (plan_units plan c.requires.unit.at.valid) (omega (arith, c.requires.unit.unit, length-map plan.units loss_of)) own.encloses
    c.requires.grids.others.encloses) (beside_narrow own c.requires.grids.others c.requires.grids.independent)
