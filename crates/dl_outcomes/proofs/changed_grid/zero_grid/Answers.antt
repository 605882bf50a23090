use Rattle.dl_outcomes.proofs.Common.{rules, if_ok_two}
use Rattle.dl_outcomes.proofs.Cells.{room_for_none, changed_encloses}
use Rattle.dl_outcomes.proofs.changed_grid.zero_grid.Goals as goal

pub changed_cells-requires : goal.changed_cells-requires
changed_cells-requires g c =
    let room = room_for_none c.args.grid.now c.args.none c.args.p c.requires.before.0 c.cells.ensures.grid
    c.requires.some_claim c.requires.before.1 in search rules

pub returns-clause-encloses : goal.returns-clause-encloses
returns-clause-encloses g c =
    if_ok_two c.changed_cells.result _ _ _
    (λ after cells ends u before. changed_encloses c.args.grid.now c.args.none c.args.p u c.cells.ensures.grid
    c.requires.some_claim before
    c.requires.below_one after cells ends) c.changed_cells.ensures.cells c.changed_cells.ensures.ends
