-- Each share has the weight 1.
use Rattle.dl_reading.proofs.Common.{◌∙◌}
use Rattle.dl_reading.proofs.Shared.{equal_weighing}
use Rattle.dl_reading.proofs.shares.equal_weights.Goals as goal

pub returns : goal.returns
returns c = equal_weighing c.args.count _ c.requires.some c.requires.few
    (c.from_vec.ensures ∙ c.in_ok-weights.ensures.items_if_clones_equal (λ x e. e))
