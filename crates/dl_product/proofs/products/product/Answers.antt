use Rattle.dl_product.proofs.Common.{◌∙◌, sym}
use Rattle.dl_product.proofs.Reading.{held_fit}
use Rattle.dl_product.proofs.products.product.Goals as goal

pub sums-requires : goal.sums-requires
sums-requires g c =
    held_fit c.args.a.now c.args.b.now c.args.cells c.head_of-first.result c.head_of-second.result _ _ c.requires.some
    c.requires.in_first c.head_of-first.ensures c.head_of-second.ensures c.in_ok-one.ensures.ends c.in_ok-other.ensures.ends
    (c.in_ok-other.ensures.step ∙ sym c.in_ok-one.ensures.step)
