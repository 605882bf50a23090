use Rattle.dl_recursion.proofs.Common.{arith, inl, inr, cases_lt}
use Rattle.dl_start.proofs.Products.{two_le}
use Rattle.dl_recursion.proofs.blocks.levels_for.Goals as goal

pub returns : goal.returns
returns c = elim (cases_lt c.ilog2.result 17) [
  | inl l ↦ omega (arith, l)
  | inr l ↦ absurd (omega (arith, two_le 17 c.ilog2.result l, c.ilog2.ensures.power_le))
]
