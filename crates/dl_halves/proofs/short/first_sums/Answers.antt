use Rattle.dl_halves.proofs.Common.{arith, length, get_or, ap, subst, sym, ◌∙◌, length-take-le, get_or-take, IsHalvable}
use Rattle.dl_halves.proofs.Fits.{first_part, second_part}
use Rattle.dl_halves.proofs.short.first_sums.Goals as goal

pub exact_product-requires-clause-halvable : goal.exact_product-requires-clause-halvable
exact_product-requires-clause-halvable c =
    subst IsHalvable (sym (length-take-le c.args.half c.args.a.now c.requires.in_first)) c.requires.halvable

pub exact_product-requires-clause-fits : goal.exact_product-requires-clause-fits
exact_product-requires-clause-fits c =
    rw (length-take-le c.args.half c.args.a.now c.requires.in_first)
    (second_part 0 c.args.half (first_part 0 c.args.half c.requires.fits))

pub returns : goal.returns
returns c = record {
  each = λ s inside. ap (λ xs. get_or xs s 0) c.copy_from_slice.ensures.after
      ∙ get_or-take (length c.args.out.now) c.exact_product.new.out s 0 inside
      ∙ c.exact_product.ensures.each s (omega arith);
}
