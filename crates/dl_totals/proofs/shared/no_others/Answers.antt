use Rattle.dl_totals.proofs.Common.{List, [], ◌∷◌, ◌++◌, ap, ◌∙◌, Option, None, Iv, replicate_more}
use Rattle.dl_totals.proofs.shared.no_others.Goals as goal

pub loop-preserved : goal.loop-preserved
loop-preserved g c = c.in_ok-push.ensures.items
    ∙ ap (λ (t : List (Option (List (Iv g.row.B)))). t ++ None ∷ []) c.loop.invariant
    ∙ replicate_more c.loop.counter None
