use Rattle.dl_product.proofs.Common.{◌<◌, ◌∙◌, arith, length}
use Rattle.dl_product.proofs.Rests.{high_fits, high_products, low_products}
use Rattle.dl_product.proofs.behind.grid_of_heads.Goals as goal

pub with_rest-highs-requires : goal.with_rest-highs-requires
with_rest-highs-requires g c s b =
    let inside : s < length c.args.lows.items = omega (arith, b, c.requires.paired) in
    omega (
      arith,
      c.requires.high s inside,
      high_products c.args.a.now c.args.b.now (length c.args.lows.items) c.args.first c.args.second c.requires.first
          c.requires.second c.highs.result.now c.highs.ensures.each s inside,
      high_fits c.args.a.now c.args.b.now (length c.args.lows.items) c.args.first c.args.second c.requires.first
          c.requires.second c.requires.some c.requires.in_first s inside,
    )

pub with_rest-highs-requires-2 : goal.with_rest-highs-requires-2
with_rest-highs-requires-2 g c s b =
    let inside : s < length c.args.lows.items = omega (arith, b, c.with_rest-highs.ensures.cells, c.requires.paired) in
    omega (
      arith,
      c.with_rest-highs.ensures.each s (omega (arith, inside, c.requires.paired)),
      c.requires.high s inside,
      high_products c.args.a.now c.args.b.now (length c.args.lows.items) c.args.first c.args.second c.requires.first
          c.requires.second c.highs.result.now c.highs.ensures.each s inside,
      high_fits c.args.a.now c.args.b.now (length c.args.lows.items) c.args.first c.args.second c.requires.first
          c.requires.second c.requires.some c.requires.in_first s inside,
    )

pub grid_of_sums-requires : goal.grid_of_sums-requires
grid_of_sums-requires g c = (
  omega arith,
  (
    c.requires.some,
    (
      c.with_rest-highs-2.ensures.cells ∙ c.with_rest-highs.ensures.cells ∙ c.requires.paired,
      (
        c.requires.in_first,
        (
          c.requires.in_second,
          (
            λ s b. c.requires.low s b ∙ low_products c.args.a.now c.args.b.now _ c.args.first c.args.second
                c.requires.first c.requires.second s b,
            λ s b. omega (
              arith,
              c.with_rest-highs-2.ensures.each s (omega (arith, b, c.with_rest-highs.ensures.cells, c.requires.paired)),
              c.with_rest-highs.ensures.each s (omega (arith, b, c.requires.paired)),
              c.requires.high s b,
              high_products c.args.a.now c.args.b.now (length c.args.lows.items) c.args.first c.args.second
                  c.requires.first c.requires.second c.highs.result.now c.highs.ensures.each s b,
            ),
          ),
        ),
      ),
    ),
  ),
)
