-- The number of claims above 0 is at most the bound.
use Rattle.dl_pool.proofs.Common.{◌≤◌, ◌*◌, ◌∙◌, ap, arith, ◌*ℚ◌, given_value, leb-true, le-leb, most_expected}
use Rattle.dl_pool.proofs.Units.{at_most, few_parts}
use Rattle.dl_pool.proofs.pooling.are_admitted.Goals as goal

pub returns-then-has_small_parts-2-clause-few : goal.returns-then-has_small_parts-2-clause-few
returns-then-has_small_parts-2-clause-few c h =
    let few : c.num.result ≤ 4096 * c.den.result = leb-true _ _ h in
    at_most c.in-Ok.above _ most_expected
    (given_value _ _ c.in-Ok.above c.mul.ensures c.in-Ok.is ∙ ap (λ t. c.args.claims *ℚ t) c.share_above_zero.ensures)
    (omega (arith, few, c.num.ensures.part, c.den.ensures.part))

pub returns-then-has_small_parts-2-clause-there : goal.returns-then-has_small_parts-2-clause-there
returns-then-has_small_parts-2-clause-there c claims above few =
    let parts = few_parts c.in-Ok.above _ most_expected
    (given_value _ _ c.in-Ok.above c.mul.ensures c.in-Ok.is ∙ ap (λ t. c.args.claims *ℚ t) c.share_above_zero.ensures)
    few in
    le-leb c.num.result (4096 * c.den.result) (omega (arith, parts, c.num.ensures.part, c.den.ensures.part))
