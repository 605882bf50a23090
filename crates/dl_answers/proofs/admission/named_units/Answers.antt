use Rattle.std.proofs.Common.{[], ◌∷◌, ◌++◌, ◌∙◌, ap}
use Rattle.dl_answers.proofs.Common.{Asked, named_unit}
use Rattle.dl_plan.proofs.Passed.{mapped_more}
use Rattle.dl_answers.proofs.admission.named_units.Goals as goal

pub loop-asked-preserved : goal.loop-asked-preserved
loop-asked-preserved c =
    mapped_more (λ (asked : Asked). named_unit c.args.units.now asked.ask) c.args.asks.now c.loop-asked.named.items _
    c.loop-asked.asked-index c.asked-item.result c.loop-asked-test.true c.asked-item.is c.loop-asked.invariant
    (c.in_ok-push.ensures.items ∙ ap (λ unit. c.loop-asked.named.items ++ unit ∷ []) c.named_unit.ensures)
