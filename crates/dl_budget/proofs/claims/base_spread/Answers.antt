use Rattle.dl_budget.proofs.Common.{◌*◌, ◌+◌, ◌∙◌, ap₂, sym, div_ceil}
use Rattle.dl_budget.proofs.Bases.{base_parts}
use Rattle.dl_budget.proofs.claims.base_spread.Goals as goal

pub returns : goal.returns
returns c = c.div_ceil.ensures
    ∙ ap₂ div_ceil (ap₂ (λ d n. c.args.steps * (d + n)) c.den.ensures.part c.num.ensures.part) c.den-2.ensures.part
    ∙ sym (base_parts c.args.steps c.args.beta)
