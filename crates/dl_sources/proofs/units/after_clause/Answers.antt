use Rattle.dl_sources.proofs.Common.{if_ok_three}
use Rattle.dl_sources.proofs.UnitLaws.{plain_grid, ceded_grid}
use Rattle.dl_sources.proofs.units.after_clause.Goals as goal

pub returns-in-Some : goal.returns-in-Some
returns-in-Some g c =
    if_ok_three c.cede_grid.result _ _ _ _ (λ g cells encloses twice.
    ceded_grid c.args.claims c.requires.on.valid c.requires.claims c.in-Some.is cells encloses twice)
    c.cede_grid.ensures.cells c.cede_grid.ensures.encloses c.cede_grid.ensures.spread

pub returns-in-None : goal.returns-in-None
returns-in-None g c = plain_grid c.args.claims c.requires.on.valid c.requires.claims c.in-None.is
