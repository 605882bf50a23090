use Rattle.dl_outcomes.proofs.Common.{◌≡◌, Some, sym, ap, ◌∙◌, option_copied, if_ok_three}
use Rattle.dl_outcomes.proofs.Ceded.{encloses}
use Rattle.dl_outcomes.proofs.clause_grid.cede_grid.Goals as goal

pub returns-clause-encloses : goal.returns-clause-encloses
returns-clause-encloses g c =
    let is : c.args.unit.now.cede ≡ Some c.unwrap-cede.result.now = sym c.as_ref.ensures.value
    ∙ ap option_copied c.unwrap-cede.ensures in
    if_ok_three c.kept_cells.result _ _ _ _
    (λ grid cells inside past. encloses c.args.unit.now c.unwrap-cede.result.now c.requires.valid.0 c.requires.valid.1
    is c.args.grid.now grid c.args.cells c.requires.horizon c.requires.encloses cells inside past)
    c.kept_cells.ensures.cells c.kept_cells.ensures.inside c.kept_cells.ensures.past
