-- The quotient by its definition: the product with the second fraction turned over.
use Rattle.dl_frac.proofs.Common.{◌<◌, subst, sym, Fraction, lowest_swap, num_pos}
use Rattle.dl_exact.proofs.Parts.{quotient_is}
use Rattle.dl_frac.proofs.arithmetic.Frac.div.Goals as goal

pub product-requires-clause-right : goal.product-requires-clause-right
product-requires-clause-right c = subst (λ (x : Fraction). 0 < x.num) (sym c.o.view_is) (num_pos c.args.o c.requires)

pub product-requires-clause-right_lowest : goal.product-requires-clause-right_lowest
product-requires-clause-right_lowest c = lowest_swap _ _ c.o.inside.lowest

pub returns : goal.returns
returns c = rw (← quotient_is c.args.self c.args.o, ← c.self.view_is, ← c.o.view_is) c.product.ensures
