use Rattle.dl_totals.proofs.Common.{take, refl, ap, ◌∙◌, IfOk-weaker, last_place}
use Rattle.dl_totals.proofs.TreeLaws.{all_in_last}
use Rattle.dl_totals.proofs.tree.sum_of_all.Goals as goal

pub returns : goal.returns
returns g c =
    IfOk-weaker c.truncate.result _ _ (λ sum is.
    all_in_last c.args.cells (last_place c.args.units.now c.args.nodes.now) c.args.units.now c.args.nodes.now sum refl
    c.requires.cells.units (is ∙ ap (take c.args.cells) c.sum_at.ensures) c.requires.tree)
    c.truncate.ensures
