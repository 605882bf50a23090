use Rattle.dl_budget.proofs.Common.{◌+◌, ◌∙◌, ap, arith, num_below}
use Rattle.dl_budget.proofs.Tails.{over_tail}
use Rattle.dl_budget.proofs.asks.share_budget.Goals as goal

pub overflow_sub-den : goal.overflow_sub-den
overflow_sub-den g c = let below = num_below c.args.p c.requires.level.below in omega arith

pub div_ceil-requires : goal.div_ceil-requires
div_ceil-requires g c = let below = num_below c.args.p c.requires.level.below in omega arith

pub returns-clause-value : goal.returns-clause-value
returns-clause-value g c =
    ap (λ t. t + 4) c.div_ceil.ensures ∙ over_tail _ _ _ _ _ c.args.p c.undivided.ensures.value
    c.den.ensures.part c.den-2.ensures.part c.num.ensures.part c.requires.level.below
