use Rattle.dl_halves.proofs.Common.{arith, length, get_or_default_zero}
use Rattle.dl_halves.proofs.FirstPlaces.{exact_sum}
use Rattle.dl_halves.proofs.short.exact_product.Goals as goal

pub returns : goal.returns
returns c = record {
  each = λ s inside. exact_sum c.args.a.now c.args.b.now c.halved.new.out s (length c.args.a.now) c.requires.fits
      (λ k d h. omega (arith, get_or_default_zero c.halved.new.out k d h, c.type_inv.out k))
      (omega (arith, inside, c.requires.room)) (c.halved.ensures.value s inside);
}
