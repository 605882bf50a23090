use Rattle.dl_sources.proofs.Common.{[], ◌≡◌, ◌∷◌, ◌++◌, length, arith, ap, sym, subst, ◌∙◌, few_cells, length-append, AreUnitGrids, take, ◌also◌, take-append_seam, rest_of}
use Rattle.dl_sources.proofs.Parted.{is_total_together}
use Rattle.dl_sources.proofs.ReadAs.{unit_on}
use Rattle.dl_sources.proofs.SumLaws.{long_enough}
use Rattle.dl_sources.proofs.Taken.{grids_more}
use Rattle.dl_sources.proofs.together.total_together.Goals as goal

pub plain_grid-requires : goal.plain_grid-requires
plain_grid-requires g c =
    let alone = c.requires.pooled.sum.alone in
    (omega arith) also unit_on c.requires.of.at.at c.requires.pooled.valid also alone.clause also alone.zero

pub total_with-requires : goal.total_with-requires
total_with-requires g c =
    let plan = c.args.of.now.plan.now in
    let made = c.args.pooled.now in
    let all = rest_of plan.units ++ made ∷ [] in
    let grids = c.as_slice.result.now in
    let each : AreUnitGrids plan.cells all grids =
    subst (AreUnitGrids plan.cells all) (sym (c.as_slice.ensures.value ∙ c.in_ok-push.ensures.items))
    (grids_more plan.cells (rest_of plan.units) _ made _ c.requires.rest c.in_ok-grid.ensures) in
    (omega arith) also (omega (arith, each.as_many, length-append (rest_of plan.units) (made ∷ [])))
    also (few_cells plan c.requires.of.at.at.valid).0 also long_enough plan.cells all grids each

pub returns-clause-total : goal.returns-clause-total
returns-clause-total g c narrow =
    let plan = c.args.of.now.plan.now in
    let made = c.args.pooled.now in
    let all = rest_of plan.units ++ made ∷ [] in
    let each : AreUnitGrids plan.cells all c.as_slice.result.now =
    subst (AreUnitGrids plan.cells all) (sym (c.as_slice.ensures.value ∙ c.in_ok-push.ensures.items))
    (grids_more plan.cells (rest_of plan.units) _ made _ c.requires.rest c.in_ok-grid.ensures) in
    let total = c.in_ok-total.ensures in
    let at = c.requires.of.at in
    is_total_together made at.at.valid at.independent c.requires.pooled each total.cells total.encloses narrow

pub returns-clause-rest : goal.returns-clause-rest
returns-clause-rest g c =
    let old = c.args.rest.now.items in
    let many : c.len-many.result ≡ length old = omega (arith, c.len-many.ensures, c.args.rest.now.ok) in
    c.truncate.ensures.items ∙ ap (λ t. take c.len-many.result t) c.in_ok-push.ensures.items
    ∙ ap (λ n. take n (old ++ c.in_ok-grid.grid ∷ [])) many ∙ take-append_seam old _
