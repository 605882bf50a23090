use Rattle.dl_sources.proofs.Common.{[], ◌∷◌, ◌++◌, arith, ap, ◌∙◌, few_cells, ◌also◌}
use Rattle.dl_sources.proofs.FactorLaws.{one_grid, two_grids}
use Rattle.dl_sources.proofs.Scales.{grid_size}
use Rattle.dl_sources.proofs.PooledUnits.{pooled_unit_valid, pooled_total}
use Rattle.dl_sources.proofs.factor.factor_grids.Goals as goal

pub unit_grid_with-requires : goal.unit_grid_with-requires
unit_grid_with-requires g c =
    let plan = c.args.plan.now in
    let pooled = c.requires.pooled in
    let few = few_cells plan pooled.at.valid in
    (omega arith) also grid_size g.row.B plan.cells pooled.at.scale few.0 few.1
    also (plan.cells, pooled_unit_valid pooled.shares _ pooled.sum)

pub returns-then-not-named : goal.returns-then-not-named
returns-then-not-named g c =
    let pooled = c.requires.pooled in
    let total = c.in_ok-total.ensures in
    rw c.if-not-named.true (one_grid (pooled_total pooled.shares _ pooled.sum total.cells total.encloses total.spread)
    (c.in_ok-push.ensures.items ∙ ap (λ t. t ++ c.in_ok-total.total ∷ []) c.new-grids.ensures.items))

pub returns : goal.returns
returns g c =
    let pooled = c.requires.pooled in
    let total = c.in_ok-total.ensures in
    two_grids (pooled_total pooled.shares _ pooled.sum total.cells total.encloses total.spread)
    c.in_ok-raised.ensures.grid c.in_ok-raised.ensures.reach
    (c.in_ok-push-2.ensures.items ∙ ap (λ t. t ++ c.in_ok-raised.raised ∷ [])
    (c.in_ok-push.ensures.items ∙ ap (λ t. t ++ c.in_ok-total.total ∷ []) c.new-grids.ensures.items))
