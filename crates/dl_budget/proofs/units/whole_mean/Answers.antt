use Rattle.dl_budget.proofs.Common.{ap, sym, ◌∙◌, up, up_quotient, near_in_any}
use Rattle.dl_budget.proofs.Means.{whole_small}
use Rattle.dl_budget.proofs.units.whole_mean.Goals as goal

pub mean_parts-num-requires-clause-near : goal.mean_parts-num-requires-clause-near
mean_parts-num-requires-clause-near c = near_in_any c.requires.valid.0 c.args.unit.now c.requires.valid.1

pub returns-clause-value : goal.returns-clause-value
returns-clause-value c =
    let parts = c.mean_parts-num.ensures in
    c.div_ceil.ensures ∙ sym (up_quotient _ _ parts.positive) ∙ ap up parts.value

pub returns-clause-small : goal.returns-clause-small
returns-clause-small c =
    whole_small c.requires.valid.0 c.args.unit.now c.div_ceil.result c.requires.valid.1 c.requires.changed.1.most
    (returns-clause-value c)
