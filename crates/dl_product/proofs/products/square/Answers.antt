use Rattle.dl_product.proofs.Common.{refl}
use Rattle.dl_product.proofs.Reading.{held_fit}
use Rattle.dl_product.proofs.products.square.Goals as goal

pub sums-requires : goal.sums-requires
sums-requires g c =
    held_fit c.args.a.now c.args.a.now c.args.cells c.head_of-head.result c.head_of-head.result _ _ c.requires.some
    c.requires.in_first c.head_of-head.ensures c.head_of-head.ensures c.in_ok-one.ensures.ends c.in_ok-one.ensures.ends refl
