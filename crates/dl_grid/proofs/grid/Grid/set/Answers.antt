use Rattle.dl_grid.proofs.Common.{set, ap, ◌∙◌}
use Rattle.dl_grid.proofs.EndLists.{cells_long, low_of, low_total, ends_set, view_set}
use Rattle.dl_grid.proofs.grid.Grid.set.Goals as goal

pub invariant_of-self : goal.invariant_of-self
invariant_of-self g c =
    let p = c.self.invariant in
    ends_set c.args.x c.args.v (rw (← c.self.view_is, cells_long p) at c.requires.within) c.requires.small
    (rw (← c.self.view_is, low_total p, low_of c.args.x p) at c.requires.mass) p

pub returns : goal.returns
returns g c =
    view_set c.args.x c.args.v (invariant_of-self g c) c.self.invariant
    ∙ ap (λ cells. set cells c.args.x c.args.v) c.self.view_is
