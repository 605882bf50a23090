-- The product by its definition.
use Rattle.dl_exact.proofs.Parts.{product_is}
use Rattle.dl_frac.proofs.arithmetic.Frac.mul.Goals as goal

pub returns : goal.returns
returns c = rw (← product_is c.args.self c.args.o, ← c.self.view_is, ← c.o.view_is) c.product.ensures
