use Rattle.dl_claims.proofs.Common.{if_ok_two}
use Rattle.dl_claims.proofs.ShortGrids.{short_convolution}
use Rattle.dl_claims.proofs.short.short_product.Goals as goal

pub returns-clause-convolution : goal.returns-clause-convolution
returns-clause-convolution g c =
    if_ok_two c.product.result _ _ _ (λ grid. short_convolution c.args.a.now c.args.b.now _ _ grid c.args.cells _
    c.cells_of_product-long.ensures.last c.in_ok-first.ensures.low c.in_ok-first.ensures.high
    c.in_ok-second.ensures.low c.in_ok-second.ensures.high) c.product.ensures.cells c.product.ensures.convolution
