use Rattle.dl_totals.proofs.Common.{refl, IfOk-weaker, last_place}
use Rattle.dl_totals.proofs.TreeLaws.{outside_last}
use Rattle.dl_totals.proofs.tree.outside_all.Goals as goal

pub returns : goal.returns
returns g c =
    IfOk-weaker c.none_but_last.result _ _ (λ outer made.
    outside_last c.args.cells (last_place c.args.units.now c.args.nodes.now) c.args.units.now c.args.nodes.now
    c.in_ok-none.none outer.items c.requires.cells.units refl
    c.in_ok-none.ensures.cells c.in_ok-none.ensures.encloses made c.requires.tree)
    c.none_but_last.ensures
