use Rattle.dl_budget.proofs.Common.{◌+◌, ◌*◌, ap, ap₂, sym, ◌∙◌, div_ceil}
use Rattle.dl_budget.proofs.Prices.{up_part}
use Rattle.dl_budget.proofs.asks.part_budget.Goals as goal

pub returns-clause-value : goal.returns-clause-value
returns-clause-value c =
    ap (λ t. t + 2) (
    c.div_ceil.ensures ∙ ap₂ (λ n d. div_ceil (n * c.args.tail) d) c.num.ensures.part c.den.ensures.part
    ∙ sym (up_part c.args.weight c.args.tail)
    )
