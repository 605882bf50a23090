use Rattle.dl_transform.proofs.Common.{◌^◌, ◌<◌, arith}
use Rattle.dl_transform.proofs.Widths.{low_below}
use Rattle.dl_transform.proofs.multiply.low_products.Goals as goal

pub returns : goal.returns
returns c s b =
    let inside : s < 2 ^ c.args.levels = omega (arith, b, c.requires.room.within, c.requires.room.room) in
    c.combine_all.ensures.is s b _ (low_below _ _ _ _ s _ (c.requires.sums s))
    (c.sums_modulo.ensures s inside) (c.sums_modulo-2.ensures s inside)
