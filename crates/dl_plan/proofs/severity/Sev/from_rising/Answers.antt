-- The greatest common divisor of the weights taken out.
use Rattle.dl_plan.proofs.Common.{ap, ◌∙◌, common_weight, weight_sum}
use Rattle.dl_plan.proofs.Weights.{made_weighted, made_means}
use Rattle.dl_plan.proofs.severity.Sev.from_rising.Goals as goal

pub invariant_of-result : goal.invariant_of-result
invariant_of-result c = record {
  weighted = made_weighted c.args.items.items c.requires.some c.requires.positive
      (c.from_vec.ensures ∙ c.divided.ensures) (c.divisor_of_weights-common.ensures ∙ ap common_weight c.deref.ensures.value)
      (c.total_weight.ensures ∙ ap weight_sum c.deref-2.ensures.value) c.requires.rising c.requires.within;
}

pub returns : goal.returns
returns c = made_means c.args.items.items c.requires.some c.requires.positive
    (c.from_vec.ensures ∙ c.divided.ensures) (c.divisor_of_weights-common.ensures ∙ ap common_weight c.deref.ensures.value)
    (c.total_weight.ensures ∙ ap weight_sum c.deref-2.ensures.value)
