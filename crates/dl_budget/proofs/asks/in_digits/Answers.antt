use Rattle.dl_budget.proofs.Common.{◌+◌, ◌*◌, ◌^◌, ap, ap₂, sym, ◌∙◌, div_ceil, pow_pos, up_quotient, in_digits}
use Rattle.dl_budget.proofs.asks.in_digits.Goals as goal

pub returns : goal.returns
unfolding in_digits
returns g c =
    ap (λ t. 1 + t) (
    c.div_ceil.ensures ∙ ap₂ (λ power scale. div_ceil (c.args.budget * power) scale) c.pow.ensures
    c.units_of_one.ensures
    ∙ sym (up_quotient (c.args.budget * 10 ^ c.args.digits) (2 ^ g.row.B) (pow_pos g.row.B))
    )
