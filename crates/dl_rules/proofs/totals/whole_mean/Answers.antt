-- The ceiling of a multiple of the mean.
use Rattle.dl_rules.proofs.Common.{◌∙◌, arith, amount_fits}
use Rattle.dl_rules.proofs.Sizes.{mean_small, mean_up}
use Rattle.dl_rules.proofs.totals.whole_mean.Goals as goal

pub mean_parts-num-requires-clause-near : goal.mean_parts-num-requires-clause-near
mean_parts-num-requires-clause-near c = λ k d h. omega (arith, c.requires.1.amounts k d h, amount_fits c.requires.0)

pub returns-clause-mean : goal.returns-clause-mean
returns-clause-mean c =
    c.div_ceil.ensures ∙ mean_up c.args.unit.now c.growth.result _ _ c.mean_parts-num.ensures.positive c.growth.ensures.value
    c.mean_parts-num.ensures.value

pub returns-clause-small : goal.returns-clause-small
returns-clause-small c =
    rw c.div_ceil.ensures (mean_small c.growth.result _ _ c.mean_parts-num.ensures.positive c.growth.ensures.few
    c.mean_parts-num.ensures.num)
