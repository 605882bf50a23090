use Rattle.dl_transform.proofs.AfterSteps.{items_back}
use Rattle.dl_transform.proofs.modular.items_of.Goals as goal

pub returns-clause-items : goal.returns-clause-items
returns-clause-items c f =
    items_back c.args.table.now c.args.levels f c.args.x.now c.to_items.new.x c.requires.table.table
    c.requires.table.inside c.to_items.ensures.items
