-- The order of the cross products.
use Rattle.dl_exact.proofs.Parts.{by_cross}
use Rattle.dl_frac.proofs.arithmetic.Frac.compare.Goals as goal

pub returns : goal.returns
returns c = rw (← c.self.view_is, ← c.o.view_is) (by_cross _ _ c.cmp.result c.cmp.ensures)
